-- What a stream must have by its description, and the lines that are printed on the way (docs/format.md,
-- "Without a set").
use Rattle.std.specs.Prelude.{ℕ, ◌+◌, Bool, true, false, ◌&&◌, ◌==◌, nat_le, if◌then◌else◌, List, [], ◌∷◌, ◌++◌, length, get_or, map, take, drop, Option, Some, None, ℤ, codes}
use Rattle.std.specs.Fmt.{decimal, signed_decimal}
use Rattle.std.specs.List.{flat_map, list_all}
use Rattle.vms_kinds.specs.declared.Kind.{Kind}
use Rattle.vms_kinds.specs.Codes.{width, value_of}
use Rattle.vms_spec.specs.declared.TheConstants.{LONGEST_NAME}
use Rattle.vms_spec.specs.Lookup.{number_at, bytes_at}
use Rattle.vms_spec.specs.Names.{is_name_byte}
use Rattle.vms_spec.specs.Rules.{in_range}
use Rattle.vms_spec.specs.Spelling.{begins_with}
use Rattle.vms_spec.specs.Streams.{be32, magic, configuration, section_head, sub_head, foot, end_mark}
use Rattle.vms_analyze.specs.Told.{Told, Sent, Kept, Fixed, Skipped, ToldSub, ToldDevice}

-- What must come next.
pub data Want : Type 0 where
  -- these bytes
  Bytes : List ℕ → Want
  -- this many bytes of any content
  Any : ℕ → Want
  -- a number, which is printed under its path
  Number : List ℕ → Kind → Want
  -- a configuration with the name of any machine, or nothing
  Machine : Want
  -- the head of a section with any id: name, instance and version
  Head : List ℕ → ℕ → ℕ → Want
  -- the footer of the open section
  Foot : Want
  -- no byte, but a line that is printed
  Line : List ℕ → Want

-- ---- of a description

-- The line of a number.
abbrev pub number_line : List ℕ → ℤ → List ℕ
number_line path z = path ++ (codes " = " ++ signed_decimal z)

-- What an element requires.
abbrev pub element_want : Told → Want
element_want (Sent path kind) = Number path kind
element_want (Kept path kind z) = Line (number_line path z)
element_want (Fixed path n) = Any n
element_want (Skipped path n) = Any n

-- The line of a subsection that was sent.
abbrev pub sent_line : List ℕ → ℕ → List ℕ
sent_line name version = codes "sub " ++ (name ++ (codes " v" ++ decimal version))

-- The line of a subsection that wasn't.
abbrev pub kept_line : List ℕ → List ℕ
kept_line name = codes "sub " ++ (name ++ codes " -")

-- What the head of a subsection requires, if it was sent or not.
abbrev pub sub_head_wants : ToldSub → Bool → List Want
sub_head_wants s true = Bytes (sub_head s.name s.version) ∷ Line (sent_line s.name s.version) ∷ []
sub_head_wants s false = Line (kept_line s.name) ∷ []

-- What a subsection requires.
abbrev pub sub_wants : ToldSub → List Want
sub_wants s = sub_head_wants s s.sent ++ map element_want s.elements

-- What a device requires.
abbrev pub device_wants : ToldDevice → List Want
device_wants d = Head d.name d.instance d.version ∷ map element_want d.elements ++ flat_map sub_wants d.subs ++ Foot ∷ []

-- The stream head is two units: its first four bytes, and the version.
abbrev pub start_wants : List Want
start_wants = Bytes magic ∷ Bytes (be32 3) ∷ Machine ∷ []

-- What a stream of these devices requires.
abbrev pub wants : List ToldDevice → List Want
wants ds = start_wants ++ flat_map device_wants ds ++ Bytes end_mark ∷ []

-- ---- what is taken of a stream

-- What is taken of a stream: the number of bytes, the id of the section that is open then, and the lines that
-- are printed.
pub record Took : Type 0 where
  pub long : ℕ
  pub id : ℕ
  pub lines : List (List ℕ)

-- These three.
abbrev pub took : ℕ → ℕ → List (List ℕ) → Took
took long id lines = record { long = long; id = id; lines = lines }

-- What is taken, if the test holds.
abbrev pub only_if : Bool → Took → Option Took
only_if true t = Some t
only_if false t = None

-- Exactly these bytes are taken.
abbrev pub take_bytes : List ℕ → ℕ → List (List ℕ) → List ℕ → Option Took
take_bytes bytes id lines rest = only_if (begins_with bytes rest) (took (length bytes) id lines)

-- A number is taken.
abbrev pub take_number : List ℕ → Kind → ℕ → List ℕ → ℤ → Option Took
take_number path kind id rest z = only_if (nat_le (width kind) (length rest) && in_range kind z) (took (width kind) id (number_line path z ∷ []))

-- Whether a name has at most 255 letters, digits, `_`, `-` and `.`.
abbrev pub is_machine : List ℕ → Bool
is_machine name = nat_le (length name) LONGEST_NAME && list_all is_name_byte name

-- The line of a machine.
abbrev pub machine_line : List ℕ → List ℕ
machine_line name = codes "machine " ++ name

-- A configuration with this name is taken.
abbrev pub take_machine : ℕ → List ℕ → List ℕ → Option Took
take_machine id rest name =
    only_if (begins_with (configuration name) rest && is_machine name) (took (length (configuration name)) id (machine_line name ∷ []))

-- The line of a section.
abbrev pub section_line : List ℕ → ℕ → ℕ → List ℕ
section_line name instance version = codes "section " ++ (name ++ (codes " " ++ (decimal instance ++ (codes " v" ++ decimal version))))

-- The head of a section with this id is taken.
abbrev pub take_head : List ℕ → ℕ → ℕ → List ℕ → ℕ → Option Took
take_head name instance version rest id = take_bytes (section_head id name instance version) id (section_line name instance version ∷ []) rest

-- What is taken for a requirement if the section `id` is open, if it is there.
abbrev pub taken : Want → ℕ → List ℕ → Option Took
taken (Bytes bytes) id rest = take_bytes bytes id [] rest
taken (Any n) id rest = only_if (nat_le n (length rest)) (took n id [])
taken (Number path kind) id rest = take_number path kind id rest (value_of kind (take (width kind) rest))
taken Machine id rest = if get_or rest 0 0 == 7 then take_machine id rest (bytes_at (number_at 4 1 rest) 5 rest) else Some (took 0 id [])
taken (Head name instance version) id rest = take_head name instance version rest (number_at 4 1 rest)
taken Foot id rest = take_bytes (foot id) id [] rest
taken (Line line) id rest = Some (took 0 id (line ∷ []))

-- The lines that are printed, or the offset of what isn't as required.
pub data Found : Type 0 where
  Lines : List (List ℕ) → Found
  Differs : ℕ → Found

-- The same after these lines.
abbrev pub behind : List (List ℕ) → Found → Found
behind lines (Lines more) = Lines (lines ++ more)
behind lines (Differs place) = Differs place

-- What is found after this was taken.
abbrev pub found_after : (ℕ → ℕ → List ℕ → Found) → ℕ → List ℕ → Option Took → Found
found_after go place rest None = Differs place
found_after go place rest (Some t) = behind t.lines (go t.id (place + t.long) (drop t.long rest))

-- What is found if the section `id` is open and the rest of the stream is at offset `place`. What is required
-- must be all of it.
abbrev pub found : List Want → ℕ → ℕ → List ℕ → Found
found [] id place [] = Lines []
found [] id place (b ∷ rest) = Differs place
found (w ∷ ws) id place rest = found_after (found ws) place rest (taken w id rest)
