-- The lines of a values text by what they say (a machine, a section, a subsection or a number), and when one
-- is refused (docs/values.md).
use Rattle.std.specs.Prelude.{ℕ, suc, ◌+◌, Bool, true, false, not, ◌&&◌, ◌||◌, if◌then◌else◌, List, [], ◌∷◌, ◌++◌, length, get_or, map, drop, Option, Some, None, ℤ, pos, codes}
use Rattle.std.specs.Str.{bytes_eq}
use Rattle.vms_spec.specs.declared.ValuesReason.{ValuesReason}
use Rattle.vms_spec.specs.declared.ValuesReason.TheVariants as reasons
use Rattle.vms_spec.specs.Lists.{or_else}
use Rattle.vms_spec.specs.Numbers.{same_number, exceeds}
use Rattle.vms_spec.specs.Rules.{in_range}
use Rattle.vms_spec.specs.Sets.{Desc, Sub, Device, Set}
use Rattle.vms_spec.specs.Layout.{Cell, desc_cells, struct_cells}
use Rattle.vms_spec.specs.Images.{Image, own_cells}
use Rattle.vms_spec.specs.Streams.{is_needed}
use Rattle.vms_spec.specs.Spelling.{first_line, begins_with, number_spelled}
use Rattle.vms_elements.specs.Elements.{What, Number, Constant, Filler, Rule, Element}
use Rattle.vms_elements.specs.Parts.{elements_in}
use Rattle.vms_elements.specs.Lines.{printed, number_line, section_line, sub_line}

-- What a line says.
pub data Entry : Type 0 where
  -- the machine
  OfMachine : List ℕ → Entry
  -- the section of a device for an image
  OfSection : Device → Image → Entry
  -- its subsection of this number, which starts at this cell, and which came at a version or didn't
  OfSub : Device → Image → ℕ → Sub → ℕ → Option ℕ → Entry
  -- a number of the device; the list has all of them
  OfNumber : Element → List ℤ → Entry

-- ---- all of them, in order

-- The entries of a description's numbers.
abbrev pub number_entries : Set → Desc → List ℤ → ℕ → List Entry
number_entries set d numbers at = map (λ x. OfNumber x numbers) (printed (elements_in set d d.version numbers at))

-- The entries of the subsections from number j on, which start at cell `at`.
abbrev pub subs_entries : Set → Device → Image → ℕ → ℕ → List Sub → List (Option ℕ) → List Entry
subs_entries set d image j at [] came = []
subs_entries set d image j at (s ∷ subs) [] = []
subs_entries set d image j at (s ∷ subs) (o ∷ came) =
    OfSub d image j s at o ∷ number_entries set s.desc image.numbers at
    ++ subs_entries set d image (suc j) (at + length (desc_cells (struct_cells set) s.desc)) subs came

-- The entries of a device.
abbrev pub device_entries : Set → Device → Image → List Entry
device_entries set d image =
    OfSection d image ∷ number_entries set d.desc image.numbers 0 ++ subs_entries set d image 0 (own_cells set d) d.subs image.came

-- The entries of devices.
abbrev pub devices_entries : Set → List Device → List Image → List Entry
devices_entries set [] images = []
devices_entries set (d ∷ devices) [] = []
devices_entries set (d ∷ devices) (image ∷ images) = device_entries set d image ++ devices_entries set devices images

-- The entry of a machine, if one is named.
abbrev pub machine_entries : Option (List ℕ) → List Entry
machine_entries None = []
machine_entries (Some name) = OfMachine name ∷ []

-- The entries of a values text.
abbrev pub entries : Set → Option (List ℕ) → List Image → List Entry
entries set machine images = machine_entries machine ++ devices_entries set set.devices images

-- The line of an entry.
abbrev pub entry_line : Entry → List ℕ
entry_line (OfMachine name) = codes "machine " ++ name
entry_line (OfSection d image) = section_line d image.version
entry_line (OfSub d image j s at came) = sub_line s came
entry_line (OfNumber x numbers) = number_line numbers x

-- ---- the first pass: a line where an entry must be

-- The reason, unless the test holds.
abbrev pub if_not : Bool → ValuesReason → Option ValuesReason
if_not true reason = None
if_not false reason = Some reason

-- Why a cell may not hold the number z: it is out of range, a count above a capacity, or not the default of
-- an absent cell.
abbrev pub number_reason : Cell → Bool → ℤ → Option ValuesReason
number_reason cell present z =
    or_else (if_not (in_range cell.kind z) reasons.Number)
    (or_else (if_not (not (exceeds cell.capacities z)) reasons.Count)
    (if_not (present || same_number z cell.default) reasons.Absent))

-- The same for what a text spells.
abbrev pub spelled_reason : Cell → Bool → Option ℤ → Option ValuesReason
spelled_reason cell present None = Some reasons.Number
spelled_reason cell present (Some z) = number_reason cell present z

-- The same for an element. Only a number has a line.
abbrev pub element_reason : What → Bool → List ℕ → Option ValuesReason
element_reason (Number cell) present text = spelled_reason cell present (number_spelled text)
element_reason (Constant kind z) present text = Some reasons.Form
element_reason (Filler n) present text = Some reasons.Form
element_reason (Rule holds) present text = Some reasons.Form

-- Why a line isn't one for the entry, if it isn't. This doesn't depend on what the entry's image says:
-- versions are the set's own, and a subsection's line may have the dash.
abbrev pub line_reason : Entry → List ℕ → Option ValuesReason
line_reason (OfMachine name) line = if_not (bytes_eq line (codes "machine " ++ name)) reasons.Form
line_reason (OfSection d image) line = if_not (bytes_eq line (section_line d d.desc.version)) reasons.Form
line_reason (OfSub d image j s at came) line =
    if_not (bytes_eq line (sub_line s (Some s.desc.version)) || bytes_eq line (sub_line s None)) reasons.Form
line_reason (OfNumber x numbers) line =
    let front = x.name ++ codes " = " in
    if begins_with front line then element_reason x.what x.present (drop (length front) line) else Some reasons.Form

-- The same for the first line of a text, which must have its line feed.
abbrev pub wanted_reason : Entry → Option (List ℕ × List ℕ) → Option ValuesReason
wanted_reason e None = Some reasons.Form
wanted_reason e (Some (line, rest)) = line_reason e line

-- Why a text is refused at its front if these entries must follow. If none must, nothing may follow.
abbrev pub front_reason : List Entry → List ℕ → Option ValuesReason
front_reason [] [] = None
front_reason [] (b ∷ text) = Some reasons.Form
front_reason (e ∷ more) text = wanted_reason e (first_line text)

-- ---- the second pass: sections and subsections, by all numbers

-- Whether an element's validations hold.
abbrev pub rule_holds : What → Bool
rule_holds (Rule holds) = holds
rule_holds (Number cell) = true
rule_holds (Constant kind z) = true
rule_holds (Filler n) = true

-- Whether the validations of all elements in the bytes hold.
abbrev pub rules_hold : List Element → Bool
rules_hold [] = true
rules_hold (x ∷ xs) = (not x.present || rule_holds x.what) && rules_hold xs

-- Whether an element's number is its default.
abbrev pub has_default : List ℤ → ℕ → What → Bool
has_default numbers at (Number cell) = same_number (get_or numbers at (pos 0)) cell.default
has_default numbers at (Constant kind z) = true
has_default numbers at (Filler n) = true
has_default numbers at (Rule holds) = true

-- Whether all numbers are their defaults.
abbrev pub have_defaults : List ℤ → List Element → Bool
have_defaults numbers [] = true
have_defaults numbers (x ∷ xs) = has_default numbers x.cell x.what && have_defaults numbers xs

-- Whether the validations of a subsection hold, if its line names a version.
abbrev pub sub_holds : Set → Sub → Option ℕ → List ℤ → ℕ → Bool
sub_holds set s None numbers at = true
sub_holds set s (Some v) numbers at = rules_hold (elements_in set s.desc v numbers at)

-- Whether a subsection came.
abbrev pub has_come : Option ℕ → Bool
has_come None = false
has_come (Some v) = true

-- Whether a subsection came exactly if it is needed; if it isn't, its numbers must be at their defaults.
abbrev pub came_well : Bool → Option ℕ → Bool → Bool
came_well true came defaults = has_come came
came_well false came defaults = not (has_come came) && defaults

-- Why the line of a section or a subsection is refused in the second pass, if it is.
abbrev pub part_reason : Set → Entry → Option ValuesReason
part_reason set (OfMachine name) = None
part_reason set (OfNumber x numbers) = None
part_reason set (OfSection d image) = if_not (rules_hold (elements_in set d.desc image.version image.numbers 0)) reasons.Invalid
part_reason set (OfSub d image j s at came) =
    or_else (if_not (sub_holds set s came image.numbers at) reasons.Invalid)
    (if_not (came_well (is_needed set d image s j) came (have_defaults image.numbers (elements_in set s.desc s.desc.version image.numbers at))) reasons.Needed)
