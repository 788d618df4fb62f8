-- The values text as a list of lines, each without its line feed. There is one for the machine if one is
-- named, one for each device, one for each number that is counted, and the same for each subsection.
use Rattle.std.specs.Prelude.{ℕ, ◌+◌, ◌&&◌, if◌then◌else◌, List, [], ◌∷◌, ◌++◌, length, get_or, map, Option, Some, None, ℤ, pos, codes}
use Rattle.std.specs.Fmt.{decimal, signed_decimal}
use Rattle.vms_spec.specs.Sets.{Desc, Sub, Device, Set}
use Rattle.vms_spec.specs.Layout.{desc_cells, struct_cells}
use Rattle.vms_spec.specs.Images.{Image, own_cells}
use Rattle.vms_spec.specs.Values.{version_text}
use Rattle.vms_elements.specs.Elements.{Element}
use Rattle.vms_elements.specs.Parts.{is_number, elements_in}

-- The lines, each ended with a line feed.
abbrev pub text_of : List (List ℕ) → List ℕ
text_of [] = []
text_of (line ∷ lines) = line ++ (10 ∷ text_of lines)

-- The numbers that are printed.
abbrev pub printed : List Element → List Element
printed [] = []
printed (x ∷ xs) = if x.counted && is_number x.what then x ∷ printed xs else printed xs

-- The line of a number.
abbrev pub number_line : List ℤ → Element → List ℕ
number_line numbers x = x.name ++ (codes " = " ++ signed_decimal (get_or numbers x.cell (pos 0)))

-- The lines of a description's numbers, which start at cell `at`. They don't depend on the version: what is
-- counted is printed, whether or not it is there.
abbrev pub number_lines : Set → Desc → List ℤ → ℕ → List (List ℕ)
number_lines set d numbers at = map (number_line numbers) (printed (elements_in set d d.version numbers at))

-- The line of a section.
abbrev pub section_line : Device → ℕ → List ℕ
section_line d version = codes "section " ++ (d.desc.name ++ (codes " " ++ (decimal d.instance ++ (codes " v" ++ decimal version))))

-- The line of a subsection.
abbrev pub sub_line : Sub → Option ℕ → List ℕ
sub_line s came = codes "sub " ++ (s.desc.name ++ (codes " " ++ version_text came))

-- The lines of subsections, which start at cell `at`.
abbrev pub subs_lines : Set → List ℤ → ℕ → List Sub → List (Option ℕ) → List (List ℕ)
subs_lines set numbers at [] came = []
subs_lines set numbers at (s ∷ subs) [] = []
subs_lines set numbers at (s ∷ subs) (o ∷ came) =
    sub_line s o ∷ number_lines set s.desc numbers at
    ++ subs_lines set numbers (at + length (desc_cells (struct_cells set) s.desc)) subs came

-- The lines of a device.
abbrev pub device_lines : Set → Device → Image → List (List ℕ)
device_lines set d image =
    section_line d image.version ∷ number_lines set d.desc image.numbers 0 ++ subs_lines set image.numbers (own_cells set d) d.subs image.came

-- The lines of devices.
abbrev pub devices_lines : Set → List Device → List Image → List (List ℕ)
devices_lines set [] images = []
devices_lines set (d ∷ devices) [] = []
devices_lines set (d ∷ devices) (image ∷ images) = device_lines set d image ++ devices_lines set devices images

-- The line of the machine, if one is named.
abbrev pub machine_lines : Option (List ℕ) → List (List ℕ)
machine_lines None = []
machine_lines (Some name) = (codes "machine " ++ name) ∷ []

-- The lines of a values text.
abbrev pub values_lines : Set → Option (List ℕ) → List Image → List (List ℕ)
values_lines set machine images = machine_lines machine ++ devices_lines set set.devices images
