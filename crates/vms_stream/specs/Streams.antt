-- Streams with and without footers: which bytes are a stream of a set, and what an input takes
-- (docs/format.md, "The parts of a stream").
use Rattle.std.specs.Prelude.{◌≡◌, ℕ, ◌<◌, Bool, false, if◌then◌else◌, List, [], ◌∷◌, ◌++◌, length, Option, Some, None, map}
use Rattle.std.specs.List.{slice_get}
use Rattle.vms_spec.specs.Sets.{Device, Set}
use Rattle.vms_spec.specs.Images.{Image, IsNormal, IsValid, Spells, own_slots}
use Rattle.vms_spec.specs.Streams.{section_head, foot, stream_head, end_mark, ComesOnce, SubsSpell, EachOnce, IsConfiguration, IsTrailer}

-- ---- sections

-- `IsSection set d image id footed bytes`: `bytes` are a section of the device `d`. It has a head, fields,
-- the subsections that came in some order, and, if it is footed, a footer.
pub record IsSection (set : Set) (d : Device) (image : Image) (id : ℕ) (footed : Bool) (bytes : List ℕ) : Type 0 where
  pub fits : id < 4294967296
  pub normal : IsNormal set d image
  pub valid : IsValid set d image
  pub body : List ℕ
  pub own : Spells image.numbers (own_slots set d image.version image.numbers) body
  pub order : List ℕ
  pub each_once : ComesOnce image.came order
  pub tail : List ℕ
  pub subs : SubsSpell set d image order tail
  pub whole : bytes ≡ section_head id d.desc.name d.instance image.version ++ body ++ tail ++ (if footed then foot id else [])

-- ---- whole streams

-- `HasSection set footed k d image bytes`: `bytes` are a section of device k, with some id.
abbrev pub HasSection : Set → Bool → ℕ → Option Device → Option Image → List ℕ → Type 0
HasSection set footed k (Some d) (Some image) bytes = (id : ℕ) × IsSection set d image id footed bytes
HasSection set footed k _ _ bytes = ⊥

-- `SectionsSpell set footed images order bytes`: `bytes` are the sections of the devices `order`, one after
-- the other.
abbrev pub SectionsSpell : Set → Bool → List Image → List ℕ → List ℕ → Type 0
SectionsSpell set footed images [] bytes = bytes ≡ []
SectionsSpell set footed images (k ∷ order) bytes =
    (front rest : List ℕ) × HasSection set footed k (slice_get set.devices k) (slice_get images k) front × SectionsSpell set footed images order rest × (bytes ≡ front ++ rest)

-- `IsStream set names bytes machine images text`: `bytes` are a stream of the set. It names a machine of
-- `names` or none, has a section for each device in any order, and ends with a description section or without
-- one.
pub record IsStream (set : Set) (names : List (List ℕ)) (bytes : List ℕ) (machine : Option (List ℕ)) (images : List Image) (text : Option (List ℕ)) : Type 0 where
  pub named : List ℕ
  pub configured : IsConfiguration names machine named
  pub one_each : length images ≡ length set.devices
  pub order : List ℕ
  pub each_once : EachOnce (map (λ d. false) set.devices) order
  pub sections : List ℕ
  -- all sections have footers, or, where no machine is named, none has
  pub footed : Bool
  pub bare : footed ≡ false → machine ≡ None
  pub spelled : SectionsSpell set footed images order sections
  pub tail : List ℕ
  pub described : IsTrailer text tail
  pub whole : bytes ≡ stream_head ++ named ++ sections ++ end_mark ++ tail

-- `Takes set names input taken machine images`: the first `taken` bytes of `input` are a stream, with a
-- description section or with nothing after it.
pub record Takes (set : Set) (names : List (List ℕ)) (input : List ℕ) (taken : ℕ) (machine : Option (List ℕ)) (images : List Image) : Type 0 where
  pub bytes : List ℕ
  pub text : Option (List ℕ)
  pub stream : IsStream set names bytes machine images text
  pub rest : List ℕ
  pub prefix : input ≡ bytes ++ rest
  pub long : length bytes ≡ taken
  pub all : text ≡ None → rest ≡ []
