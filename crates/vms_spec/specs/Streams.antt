-- The pieces of streams, and the stream that the writer gives (docs/format.md, "The parts of a
-- stream"). Bytes are numbers below 256. The definitions don't require it, because an input has no
-- others.
use Rattle.std.specs.Prelude.{◌≡◌, ℕ, suc, ◌+◌, ◌≤◌, Bool, true, false, List, [], ◌∷◌, ◌++◌, length, Option, Some, None, ◌||◌, slice_set}
use Rattle.std.specs.List.{slice_get}
use Rattle.std.specs.Str.{bytes_eq}
use Rattle.byteorder.specs.Endian.{big_bytes}
use Rattle.vms_spec.specs.declared.TheConstants.{LONGEST_NAME, LONGEST_TEXT}
use Rattle.vms_spec.specs.Sets.{Sub, Device, Set}
use Rattle.vms_spec.specs.Layout.{desc_cells, struct_cells, numbers_of}
use Rattle.vms_spec.specs.Tests.{truth}
use Rattle.vms_spec.specs.Images.{Image, IsNormal, IsValid, Spells, zeroed, own_slots, sub_slots, sub_place, own_cells}

-- ---- the pieces of a stream

-- four bytes, big-endian
abbrev pub be32 : ℕ → List ℕ
be32 n = big_bytes 4 n

-- the magic, `QEVM`
abbrev pub magic : List ℕ
magic = 0x51 ∷ 0x45 ∷ 0x56 ∷ 0x4d ∷ []

-- the stream head: the magic and the version 3
abbrev pub stream_head : List ℕ
stream_head = magic ++ be32 3

-- a configuration with the machine's name
abbrev pub configuration : List ℕ → List ℕ
configuration name = 0x07 ∷ be32 (length name) ++ name

-- a section head: the section id, the name, the instance id and the version id
abbrev pub section_head : ℕ → List ℕ → ℕ → ℕ → List ℕ
section_head id name instance version = 0x04 ∷ be32 id ++ (length name ∷ name) ++ be32 instance ++ be32 version

-- a subsection head: the full name and the version id
abbrev pub sub_head : List ℕ → ℕ → List ℕ
sub_head name version = 0x05 ∷ (length name ∷ name) ++ be32 version

-- a footer with the section id
abbrev pub foot : ℕ → List ℕ
foot id = 0x7e ∷ be32 id

-- the end mark
abbrev pub end_mark : List ℕ
end_mark = 0x00 ∷ []

-- the greatest number of bytes of text in a description section
abbrev pub longest_text : ℕ
longest_text = LONGEST_TEXT

-- a description section with its text
abbrev pub trailer : List ℕ → List ℕ
trailer text = 0x06 ∷ be32 (length text) ++ text

-- ---- sections

-- the bytes are those of subsection j, which came at a version: its head and its fields
abbrev pub SubSpells : Set → Device → Image → ℕ → Option Sub → Option (Option ℕ) → List ℕ → Type 0
SubSpells set d image j (Some s) (Some (Some v)) bytes =
    (body : List ℕ) × Spells image.numbers (sub_slots set s v image.numbers (sub_place set (own_cells set d) d.subs j)) body × (bytes ≡ sub_head s.desc.name v ++ body)
SubSpells set d image j _ _ bytes = ⊥

-- no subsection remains to come
abbrev pub AreAll : List (Option ℕ) → Type 0
AreAll [] = Unit {0}
AreAll (None ∷ left) = AreAll left
AreAll (Some v ∷ left) = ⊥

-- `ComesOnce left order`: the order names each subsection that remains to come, and each exactly
-- once
abbrev pub ComesOnce : List (Option ℕ) → List ℕ → Type 0
ComesOnce left [] = AreAll left
ComesOnce left (j ∷ order) = ((v : ℕ) × (slice_get left j ≡ Some (Some v))) × ComesOnce (slice_set left j None) order

-- the bytes are those of the subsections, in this order
abbrev pub SubsSpell : Set → Device → Image → List ℕ → List ℕ → Type 0
SubsSpell set d image [] bytes = bytes ≡ []
SubsSpell set d image (j ∷ order) bytes =
    (front rest : List ℕ) × SubSpells set d image j (slice_get d.subs j) (slice_get image.came j) front × SubsSpell set d image order rest × (bytes ≡ front ++ rest)

-- ---- whole streams

-- every device has come
abbrev pub AllCame : List Bool → Type 0
AllCame [] = Unit {0}
AllCame (true ∷ came) = AllCame came
AllCame (false ∷ came) = ⊥

-- `EachOnce come order`: the order names each device that has not come, and each exactly once
abbrev pub EachOnce : List Bool → List ℕ → Type 0
EachOnce came [] = AllCame came
EachOnce came (k ∷ order) = (slice_get came k ≡ Some false) × EachOnce (slice_set came k true) order

-- `is_one_of names name`: the name is among the names
abbrev pub is_one_of : List (List ℕ) → List ℕ → Bool
is_one_of [] name = false
is_one_of (n ∷ names) name = bytes_eq n name || is_one_of names name

-- the bytes are nothing, or a configuration that names one of these machines. A name of more than
-- 255 bytes, which no well-formed set has, is never accepted
abbrev pub IsConfiguration : List (List ℕ) → Option (List ℕ) → List ℕ → Type 0
IsConfiguration names None bytes = bytes ≡ []
IsConfiguration names (Some name) bytes = (is_one_of names name ≡ true) × (length name ≤ LONGEST_NAME) × (bytes ≡ configuration name)

-- the bytes are nothing, or a description section
abbrev pub IsTrailer : Option (List ℕ) → List ℕ → Type 0
IsTrailer None bytes = bytes ≡ []
IsTrailer (Some text) bytes = (length text ≤ longest_text) × (bytes ≡ trailer text)

-- ---- what the writer gives

-- subsection j is needed: its test holds at the description's version in the set
abbrev pub is_needed : Set → Device → Image → Sub → ℕ → Bool
is_needed set d image s j =
    truth s.needed s.desc.version (numbers_of (struct_cells set) s.desc image.numbers (sub_place set (own_cells set d) d.subs j)) (numbers_of (struct_cells set) d.desc image.numbers 0)

-- each subsection from j on came, at its version in the set, exactly if it is needed
abbrev pub ComeAsNeeded : Set → Device → Image → ℕ → List Sub → List (Option ℕ) → Type 0
ComeAsNeeded set d image j [] came = came ≡ []
ComeAsNeeded set d image j (s ∷ subs) [] = ⊥
ComeAsNeeded set d image j (s ∷ subs) (None ∷ came) = (is_needed set d image s j ≡ false) × ComeAsNeeded set d image (suc j) subs came
ComeAsNeeded set d image j (s ∷ subs) (Some v ∷ came) = (is_needed set d image s j ≡ true) × (v ≡ s.desc.version) × ComeAsNeeded set d image (suc j) subs came

-- a ready image, which may be written: normal, valid, of the set's version, with exactly the needed
-- subsections
pub record IsReady (set : Set) (d : Device) (image : Image) : Type 0 where
  pub normal : IsNormal set d image
  pub valid : IsValid set d image
  pub version : image.version ≡ d.desc.version
  pub needed : ComeAsNeeded set d image 0 d.subs image.came

-- there is one image for each device, and each is ready
pub record AreReady (set : Set) (images : List Image) : Type 0 where
  pub one_each : length images ≡ length set.devices
  pub ready : (k : ℕ) (d : Device) (image : Image) → slice_get set.devices k ≡ Some d → slice_get images k ≡ Some image → IsReady set d image

-- the bytes of the subsections that came, in the description's order; the first in the list has its
-- first cell at a place
abbrev pub written_subs : Set → Device → Image → ℕ → List Sub → List (Option ℕ) → List ℕ
written_subs set d image at [] came = []
written_subs set d image at (s ∷ subs) [] = []
written_subs set d image at (s ∷ subs) (None ∷ came) = written_subs set d image (at + length (desc_cells (struct_cells set) s.desc)) subs came
written_subs set d image at (s ∷ subs) (Some v ∷ came) =
    sub_head s.desc.name v ++ zeroed image.numbers (sub_slots set s v image.numbers at) ++ written_subs set d image (at + length (desc_cells (struct_cells set) s.desc)) subs came

-- the bytes of a device's section, with its id, unused bytes being 0
abbrev pub written_section : Set → Device → Image → ℕ → List ℕ
written_section set d image id =
    section_head id d.desc.name d.instance image.version ++ zeroed image.numbers (own_slots set d image.version image.numbers)
    ++ written_subs set d image (own_cells set d) d.subs image.came ++ foot id

-- the bytes of the devices' sections in the set's order, with ids from `id` on
abbrev pub written_sections : Set → ℕ → List Device → List Image → List ℕ
written_sections set id [] images = []
written_sections set id (d ∷ devices) [] = []
written_sections set id (d ∷ devices) (image ∷ images) = written_section set d image id ++ written_sections set (suc id) devices images

-- nothing, or what is made of the bytes that are given
abbrev pub optional : (List ℕ → List ℕ) → Option (List ℕ) → List ℕ
optional spell None = []
optional spell (Some text) = spell text

-- `written set machine images text` is the stream of these images, one for each device. It has a
-- configuration if a machine is named, and a description section if a text is given.
abbrev pub written : Set → Option (List ℕ) → List Image → Option (List ℕ) → List ℕ
written set machine images text = stream_head ++ optional configuration machine ++ written_sections set 0 set.devices images ++ end_mark ++ optional trailer text
