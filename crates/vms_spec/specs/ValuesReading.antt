-- How a values text is read (docs/values.md): the machine and the images that it describes, or the
-- first invalid line and the reason. A first pass takes each line by the numbers so far. A second
-- pass judges the sections and subsections by all numbers.
use Rattle.std.specs.Prelude.{ℕ, zero, suc, ◌+◌, Bool, true, false, not, ◌&&◌, ◌||◌, if◌then◌else◌, List, [], ◌∷◌, ◌++◌, length, get_or, map, drop, slice_set, Option, Some, None, ℤ, Result, Ok, Err, codes}
use Rattle.std.specs.Str.{bytes_eq}
use Rattle.std.specs.Fmt.{decimal}
use Rattle.vms_kinds.specs.declared.Kind.{Kind}
use Rattle.vms_kinds.specs.declared.Item.{Item}
use Rattle.vms_kinds.specs.declared.Item.TheVariants.{Num, Equal, Unused, Struct}
use Rattle.vms_spec.specs.declared.Count.{Count}
use Rattle.vms_spec.specs.declared.Count.TheVariants.{One}
use Rattle.vms_spec.specs.declared.ValuesReason.{ValuesReason}
use Rattle.vms_spec.specs.declared.ValuesReason.TheVariants as reasons
use Rattle.vms_spec.specs.Numbers.{same_number, exceeds}
use Rattle.vms_spec.specs.Sets.{Field, Desc, Sub, Device, Set}
use Rattle.vms_spec.specs.Tests.{is_there}
use Rattle.vms_spec.specs.Layout.{Cell, first, counted, desc_cells, struct_cells, field_cells, item_size, elements_of, numbers_of, no_parent}
use Rattle.vms_spec.specs.Images.{Image, default_image, own_slots, sub_slots, own_cells}
use Rattle.vms_spec.specs.Streams.{is_one_of, is_needed}
use Rattle.vms_spec.specs.Rules.{in_range}
use Rattle.vms_spec.specs.Readiness.{rules_are_true}
use Rattle.vms_spec.specs.Spelling.{first_line, begins_with, number_spelled}

-- an invalid line, counted from 1, and the reason
pub record BadLine : Type 0 where
  pub line : ℕ
  pub reason : ValuesReason

-- how far a reading has come: the numbers of the device's cells, the number of the next line, and
-- the text from it on
pub record Standing : Type 0 where
  pub numbers : List ℤ
  pub line : ℕ
  pub rest : List ℕ

-- how far a reading has come, or an invalid line
abbrev pub Read : Type 0
Read = Result Standing BadLine

infixl 10 ◌>>=◌
-- a reading and then another, unless the first finds an invalid line
abbrev pub ◌>>=◌ : Read → (Standing → Read) → Read
(Ok p) >>= f = f p
(Err e) >>= f = Err e

-- the next line is invalid, for this reason
abbrev pub bad : Standing → ValuesReason → Read
bad p reason = Err (record { line = p.line; reason = reason })

-- ---- the first pass: one line for a cell

-- what a cell's line is about: the cell, its kind, the capacities that it counts, its default, and
-- whether it is present
pub record CellLine : Type 0 where
  pub cell : ℕ
  pub kind : Kind
  pub capacities : List ℕ
  pub default : ℤ
  pub present : Bool

-- the number of a cell's line is stored, or the line is refused; the text is the rest after the
-- line
abbrev pub put_number : CellLine → Standing → List ℕ → Option ℤ → Read
put_number spot p rest None = bad p reasons.Number
put_number spot p rest (Some z) =
    if not (in_range spot.kind z) then bad p reasons.Number
    else if exceeds spot.capacities z then bad p reasons.Count
    else if not (spot.present || same_number z spot.default) then bad p reasons.Absent
    else Ok (record { numbers = slice_set p.numbers spot.cell z; line = suc p.line; rest = rest })

-- the reading of a cell's line, which begins with the given bytes; if it does, it has the form,
-- whatever follows
abbrev pub put_line : List ℕ → CellLine → Standing → Option (List ℕ × List ℕ) → Read
put_line path spot p None = bad p reasons.Form
put_line path spot p (Some (line, rest)) =
    let front = path ++ codes " = " in
    if begins_with front line then put_number spot p rest (number_spelled (drop (length front) line)) else bad p reasons.Form

-- a structure: its cells, and the reading of its lines under a path, present or not, from its first
-- cell on
pub record Reader : Type 0 where
  pub cells : List Cell
  pub reads : List ℕ → Bool → ℕ → Standing → Read

-- the reader that is used if there is no structure
abbrev pub no_reader : Reader
no_reader = record { cells = []; reads = λ path present at p. Ok p }

-- the cells of the structures
abbrev pub cells_of : List Reader → List (List Cell)
cells_of structs = map (λ r. r.cells) structs

-- the reading of one element's lines
abbrev pub read_item : List Reader → Field → List ℕ → List ℕ → Bool → ℕ → Item → Standing → Read
read_item structs f capacities path present at (Num kind) p =
    put_line path (record { cell = at; kind = kind; capacities = capacities; default = f.default; present = present }) p (first_line p.rest)
read_item structs f capacities path present at (Equal kind z) p = Ok p
read_item structs f capacities path present at (Unused n) p = Ok p
read_item structs f capacities path present at (Struct j) p = (get_or structs j no_reader).reads (path ++ codes ".") present at p

-- the reading of the n elements from element i on, each `step` cells after the one before
abbrev pub read_elements : List Reader → Field → List ℕ → List ℕ → Bool → ℕ → ℕ → ℕ → ℕ → Standing → Read
read_elements structs f capacities path present at step i zero p = Ok p
read_elements structs f capacities path present at step i (suc n) p =
    read_item structs f capacities (path ++ codes "[" ++ decimal i ++ codes "]") present at f.item p
    >>= λ q. read_elements structs f capacities path present (at + step) step (suc i) n q

-- the reading of an item or array
abbrev pub read_array : List Reader → Field → List ℕ → List ℕ → Bool → ℕ → Count → (ℕ → ℕ) → Standing → Read
read_array structs f capacities path present at One own p = read_item structs f capacities path present at f.item p
read_array structs f capacities path present at count own p = read_elements structs f capacities path present at (item_size (cells_of structs) f.item) 0 (elements_of count own) p

-- the reading of field i of a description at a version, whose first cell is `base`: the field is
-- present by the numbers so far, and if the description is
abbrev pub read_field : List Reader → Desc → ℕ → List ℕ → Bool → ℕ → ℕ → ℕ → Field → Standing → Read
read_field structs d v path present base i at f p =
    let own = numbers_of (cells_of structs) d p.numbers base in
    read_array structs f (counted i d.fields) (path ++ f.name) (present && is_there f.test f.since v own no_parent) at f.count own p

-- the reading of the given fields, of which the first is field i
abbrev pub read_fields : List Reader → Desc → ℕ → List ℕ → Bool → ℕ → ℕ → ℕ → List Field → Standing → Read
read_fields structs d v path present base i at [] p = Ok p
read_fields structs d v path present base i at (f ∷ fs) p =
    read_field structs d v path present base i at f p
    >>= λ q. read_fields structs d v path present base (suc i) (at + length (field_cells (cells_of structs) d.fields i f)) fs q

-- the reading of a description's lines
abbrev pub read_desc : List Reader → Desc → ℕ → List ℕ → Bool → ℕ → Standing → Read
read_desc structs d v path present at p = read_fields structs d v path present at 0 at d.fields p

-- the reader of a structure, given the earlier ones
abbrev pub reader : List Reader → Desc → Reader
reader structs d = record { cells = desc_cells (cells_of structs) d; reads = read_desc structs d d.version }

-- the readers of the structures of a set
abbrev pub readers : Set → List Reader
readers set = first reader set.structs (length set.structs)

-- ---- the first pass: sections and subsections

-- what is read of a device: its image, and the numbers of the lines of its section and of each
-- subsection
pub record ReadDevice : Type 0 where
  pub image : Image
  pub line : ℕ
  pub sub_lines : List ℕ

-- the line of a subsection, with the text for its version
abbrev pub sub_line : Sub → List ℕ → List ℕ
sub_line s said = codes "sub " ++ (s.desc.name ++ (codes " " ++ said))

-- whether a subsection came, by its line: none if the line is invalid
abbrev pub sub_said : Sub → Option (List ℕ × List ℕ) → Option (Option ℕ)
sub_said s None = None
sub_said s (Some (line, rest)) =
    if bytes_eq line (sub_line s (codes "v" ++ decimal s.desc.version)) then Some (Some s.desc.version)
    else if bytes_eq line (sub_line s (codes "-")) then Some None
    else None

-- the text after its first line
abbrev pub rest_of : Option (List ℕ × List ℕ) → List ℕ
rest_of None = []
rest_of (Some (line, rest)) = rest

-- the same numbers, at the line after this one
abbrev pub next_line : Standing → Standing
next_line p = record { numbers = p.numbers; line = suc p.line; rest = rest_of (first_line p.rest) }

-- what is read of the subsections: how far the reading came, which of them came, and the numbers of
-- their lines
pub record ReadSubs : Type 0 where
  pub place : Standing
  pub came : List (Option ℕ)
  pub lines : List ℕ

-- one more subsection is read, in front of the others
abbrev pub also : Option ℕ → ℕ → Result ReadSubs BadLine → Result ReadSubs BadLine
also came line (Err e) = Err e
also came line (Ok r) = Ok (record { place = r.place; came = came ∷ r.came; lines = line ∷ r.lines })

-- the subsections are read after the fields, unless a line is invalid
abbrev pub then_subs : Read → (Standing → Result ReadSubs BadLine) → Result ReadSubs BadLine
then_subs (Err e) go = Err e
then_subs (Ok p) go = go p

-- the reading of one subsection by what its line says, and then of the others by `go`
abbrev pub read_sub : Set → Sub → ℕ → Standing → Option (Option ℕ) → (Standing → Result ReadSubs BadLine) → Result ReadSubs BadLine
read_sub set s at p None go = Err (record { line = p.line; reason = reasons.Form })
read_sub set s at p (Some came) go = also came p.line (then_subs (read_desc (readers set) s.desc s.desc.version [] true at (next_line p)) go)

-- the reading of the subsections; the first in the list has its first cell at a place
abbrev pub read_subs : Set → ℕ → List Sub → Standing → Result ReadSubs BadLine
read_subs set at [] p = Ok (record { place = p; came = []; lines = [] })
read_subs set at (s ∷ subs) p =
    read_sub set s at p (sub_said s (first_line p.rest)) (λ q. read_subs set (at + length (desc_cells (struct_cells set) s.desc)) subs q)

-- the line of a device's section
abbrev pub section_line : Device → List ℕ
section_line d = codes "section " ++ (d.desc.name ++ (codes " " ++ (decimal d.instance ++ (codes " v" ++ decimal d.desc.version))))

-- the text's first line is the wanted one
abbrev pub is_line : List ℕ → Option (List ℕ × List ℕ) → Bool
is_line wanted None = false
is_line wanted (Some (line, rest)) = bytes_eq line wanted

-- what is read of the devices, and where the text continues
pub record ReadAll : Type 0 where
  pub devices : List ReadDevice
  pub line : ℕ
  pub rest : List ℕ

-- one more device is read, in front of the others
abbrev pub with_device : ReadDevice → Result ReadAll BadLine → Result ReadAll BadLine
with_device d (Err e) = Err e
with_device d (Ok all) = Ok (record all { devices = d ∷ all.devices })

-- a device is read, and then the others by `go`
abbrev pub device_read : Device → ℕ → Result ReadSubs BadLine → (ℕ → List ℕ → Result ReadAll BadLine) → Result ReadAll BadLine
device_read d line (Err e) go = Err e
device_read d line (Ok r) go =
    with_device (record {
      image = record { version = d.desc.version; came = r.came; numbers = r.place.numbers };
      line = line;
      sub_lines = r.lines;
    }) (go r.place.line r.place.rest)

-- the reading of one device, and then of the others by `go`
abbrev pub read_device : Set → Device → Standing → (ℕ → List ℕ → Result ReadAll BadLine) → Result ReadAll BadLine
read_device set d p go =
    if is_line (section_line d) (first_line p.rest)
    then device_read d p.line (then_subs (read_desc (readers set) d.desc d.desc.version [] true 0 (next_line p)) (read_subs set (own_cells set d) d.subs)) go
    else Err (record { line = p.line; reason = reasons.Form })

-- the reading of the devices
abbrev pub read_devices : Set → List Device → ℕ → List ℕ → Result ReadAll BadLine
read_devices set [] line rest = Ok (record { devices = []; line = line; rest = rest })
read_devices set (d ∷ devices) line rest =
    read_device set d (record { numbers = (default_image set d).numbers; line = line; rest = rest }) (λ line rest. read_devices set devices line rest)

-- ---- the second pass

-- the first of two invalid lines
abbrev pub or_bad : Option BadLine → Option BadLine → Option BadLine
or_bad (Some b) next = Some b
or_bad None next = next

-- the line is invalid if `b` is true
abbrev pub if_bad : Bool → ℕ → ValuesReason → Option BadLine
if_bad b line reason = if b then Some (record { line = line; reason = reason }) else None

-- the first numbers are the defaults of these cells
abbrev pub are_defaults : List Cell → List ℤ → Bool
are_defaults [] numbers = true
are_defaults (c ∷ cells) [] = false
are_defaults (c ∷ cells) (z ∷ numbers) = same_number z c.default && are_defaults cells numbers

-- a validation of the subsection fails, if it came
abbrev pub sub_fails : Set → Sub → Option ℕ → List ℤ → ℕ → Bool
sub_fails set s None numbers at = false
sub_fails set s (Some v) numbers at = not (rules_are_true (sub_slots set s v numbers at))

-- a subsection came
abbrev pub came : Option ℕ → Bool
came None = false
came (Some v) = true

-- the line of subsection j says whether it is needed, and if it isn't needed its cells are at their
-- defaults
abbrev pub is_said_well : Set → Device → Image → ℕ → Sub → Option ℕ → ℕ → Bool
is_said_well set d image j s o at =
    if is_needed set d image s j then came o
    else not (came o) && are_defaults (desc_cells (struct_cells set) s.desc) (drop at image.numbers)

-- the first invalid subsection; the first in the list has number j and its first cell at a place
abbrev pub judge_subs : Set → Device → Image → ℕ → ℕ → List Sub → List (Option ℕ) → List ℕ → Option BadLine
judge_subs set d image j at [] came lines = None
judge_subs set d image j at (s ∷ subs) [] lines = None
judge_subs set d image j at (s ∷ subs) (o ∷ came) [] = None
judge_subs set d image j at (s ∷ subs) (o ∷ came) (line ∷ lines) =
    or_bad (if_bad (sub_fails set s o image.numbers at) line reasons.Invalid)
    (or_bad (if_bad (not (is_said_well set d image j s o at)) line reasons.Needed)
    (judge_subs set d image (suc j) (at + length (desc_cells (struct_cells set) s.desc)) subs came lines))

-- the first invalid line of a device
abbrev pub judge_device : Set → Device → ReadDevice → Option BadLine
judge_device set d r =
    or_bad (if_bad (not (rules_are_true (own_slots set d r.image.version r.image.numbers))) r.line reasons.Invalid)
    (judge_subs set d r.image 0 (own_cells set d) d.subs r.image.came r.sub_lines)

-- the first invalid line of the devices
abbrev pub judge_devices : Set → List Device → List ReadDevice → Option BadLine
judge_devices set [] read = None
judge_devices set (d ∷ devices) [] = None
judge_devices set (d ∷ devices) (r ∷ read) = or_bad (judge_device set d r) (judge_devices set devices read)

-- ---- the whole

-- what a values text describes: a machine, if one is named, and an image for each device; or an
-- invalid line
pub data ValuesRead : Type 0 where
  Values : Option (List ℕ) → List Image → ValuesRead
  Bad : ℕ → ValuesReason → ValuesRead

-- the machine that the first line names, if it is one of the set's
abbrev pub machine_named : List (List ℕ) → Option (List ℕ × List ℕ) → Option (List ℕ)
machine_named machines None = None
machine_named machines (Some (line, rest)) =
    if begins_with (codes "machine ") line && is_one_of machines (drop 8 line) then Some (drop 8 line) else None

-- the answer, by the second pass
abbrev pub answer_of : Option (List ℕ) → List ReadDevice → Option BadLine → ValuesRead
answer_of machine devices (Some b) = Bad b.line b.reason
answer_of machine devices None = Values machine (map (λ r. r.image) devices)

-- the answer if nothing is after the last line, otherwise the reason Form
abbrev pub judged : Set → Option (List ℕ) → ReadAll → List ℕ → ValuesRead
judged set machine all [] = answer_of machine all.devices (judge_devices set set.devices all.devices)
judged set machine all (b ∷ rest) = Bad all.line reasons.Form

-- the answer after the first pass
abbrev pub ended : Set → Option (List ℕ) → Result ReadAll BadLine → ValuesRead
ended set machine (Err e) = Bad e.line e.reason
ended set machine (Ok all) = judged set machine all all.rest

-- the answer after the machine's line, if there is one
abbrev pub after_machine : Set → List ℕ → Option (List ℕ) → ValuesRead
after_machine set text None = ended set None (read_devices set set.devices 1 text)
after_machine set text (Some name) = ended set (Some name) (read_devices set set.devices 2 (rest_of (first_line text)))

-- what a text describes under a set
unfoldable pub values_read : Set → List ℕ → ValuesRead
values_read set text = after_machine set text (machine_named set.machines (first_line text))
