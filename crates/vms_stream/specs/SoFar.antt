-- What the units so far say about a stream: whether it has footers, how many slots are passed, the machine
-- and the images, and what the table of reasons needs.
use Rattle.std.specs.Prelude.{ℕ, zero, suc, ◌+◌, Bool, List, [], ◌∷◌, drop, map, slice_set, Option, Some, None}
use Rattle.vms_spec.specs.Sets.{Set}
use Rattle.vms_spec.specs.Layout.{Slot, Filler as FillerSlot, Rule as RuleSlot}
use Rattle.vms_spec.specs.Images.{Image, default_image}
use Rattle.vms_spec.specs.Units.{Piece, Configuration, Head, Number, Constant, Filler, SubHead, Foot, End}
use Rattle.vms_spec.specs.SoFar.{id_of, device_named, come, opened, image, slots}

-- Whether the sections of a stream have footers: not known yet, all have one, or none has (docs/format.md, "A
-- stream without footers").
pub data Tail : Type 0 where
  Unknown : Tail
  Footed : Tail
  Bare : Tail

-- `skipped slots` is the number of slots at the front that are no units: rules, and fillers of 0 bytes, which
-- no well-formed set has.
abbrev pub skipped : List Slot → ℕ
skipped (RuleSlot b ∷ slots) = suc (skipped slots)
skipped (FillerSlot zero ∷ slots) = suc (skipped slots)
skipped _ = 0

-- `beyond n slots` is the number of slots that are passed after the next unit, if `n` were passed before it.
abbrev pub beyond : ℕ → List Slot → ℕ
beyond n slots = suc (n + skipped (drop n slots))

-- An image with nothing in it, for a number that no device has.
abbrev pub no_image : Image
no_image = record { version = 0; came = []; numbers = [] }

-- `put_image images o image` is `images` with `image` at index `o`, or unchanged if there is none.
abbrev pub put_image : List Image → Option ℕ → Image → List Image
put_image images None image = images
put_image images (Some k) image = slice_set images k image

-- What the rows need of the units so far: which devices came, the open section, its id, and its device's
-- image.
pub record Known : Type 0 where
  pub came : List Bool
  pub section : Option ℕ
  pub id : ℕ
  pub image : Image

module _ (set : Set) where
  -- `behind open tail` is the tail after a section head or the end mark. If a section is open then, its
  -- fields have ended without a footer, and the stream is bare.
  abbrev pub behind : Option ℕ → Tail → Tail
  behind None tail = tail
  behind (Some k) tail = Bare

  -- `tail u` is whether sections have footers, as the units `u` say. A configuration and a footer say that
  -- they have.
  abbrev pub tail : List Piece → Tail
  tail [] = Unknown
  tail (Configuration name ∷ u) = Footed
  tail (Foot id ∷ u) = Footed
  tail (Head id name instance v ∷ u) = behind (opened set u) (tail u)
  tail (End ∷ u) = behind (opened set u) (tail u)
  tail (x ∷ u) = tail u

  -- `passed u` is the number of slots passed of the part whose fields are read.
  abbrev pub passed : List Piece → ℕ
  passed (Number c kind z ∷ u) = beyond (passed u) (slots set u)
  passed (Constant kind z ∷ u) = beyond (passed u) (slots set u)
  passed (Filler bytes ∷ u) = beyond (passed u) (slots set u)
  passed _ = 0

  -- `images u` are the images of all devices, as the units `u` say.
  abbrev pub images : List Piece → List Image
  images [] = map (default_image set) set.devices
  images (Head id name instance v ∷ u) = put_image (images u) (device_named set name instance) (image set (Head id name instance v ∷ u))
  images (Number c kind z ∷ u) = put_image (images u) (opened set u) (image set (Number c kind z ∷ u))
  images (SubHead name v ∷ u) = put_image (images u) (opened set u) (image set (SubHead name v ∷ u))
  images (x ∷ u) = images u

  -- `machine u` is the machine that the units `u` name, or none.
  abbrev pub machine : List Piece → Option (List ℕ)
  machine [] = None
  machine (Configuration name ∷ u) = Some name
  machine (x ∷ u) = machine u

  -- `known u` is what the rows need of the units `u`.
  abbrev pub known : List Piece → Known
  known u = record { came = come set u; section = opened set u; id = id_of u; image = image set u }
