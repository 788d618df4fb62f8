-- What the calls need, and what they judge and write, of the set that they borrow.
use Rattle.std.specs.Prelude.{◌≡◌, ℕ, ◌<◌, ◌≤◌, Bool, List, length, map, Option, None, get_or, IfSome, ℤ}
use Rattle.std.specs.Bool.{OnFalse, OnTrue}
use Rattle.vms_spec.specs.Images.{zeroed}
use Rattle.vms_spec.specs.Lists.{at_option}
use Rattle.vms_spec.specs.Places.{own_cell_count}
use Rattle.vms_spec.specs.Streams as streams
use Rattle.vms_spec.specs.Streams.{AreReady, IsReady, optional}
use Rattle.vms_spots.specs.Spots.{Held}
use Rattle.vms_desc.specs.Described.{described, device_at}
use Rattle.vms_desc.specs.Parts.{desc_at}
use Rattle.vms_desc.specs.Spots.{kinds_at}
use Rattle.vms_desc.specs.declared.set.DescSet.{DescSet}
use Rattle.vms_image.specs.Typed.{AreImagesOf, IsImageOf, IsOfDevice, Typed, state_of}
use Rattle.vms_walk.specs.Inside.{IsInside}
use Rattle.vms_walk.specs.Steps.{HasSpot, spot_slots}
use Rattle.vms_walk.specs.declared.fields.PartAt.{PartAt}
use Rattle.vms_walk.specs.declared.step.WalkStep.{WalkStep}
use Rattle.vms_write.specs.Bytes.{CanStep, CanWrite}
use Rattle.vms_write.specs.Fine.{formed, is_fine}
use Rattle.vms_write.specs.Judged as judged
use Rattle.vms_write.specs.Writing.{written_sub}

-- ---- the cells of an image

-- The step's cell is one of the image's, and its number has a code.
pub record CanWriteStep (image : Typed) (step : WalkStep) : Type 0 where
  pub inside : IsInside image.numbers step
  pub can : CanStep image.kinds step

-- There is a form for each cell of the image, and it has cell k.
pub record HasForm (image : Typed) (defaults : Held) (k : ℕ) : Type 0 where
  pub forms : length (formed defaults) ≡ length image.numbers
  pub inside : k < length image.numbers

-- There is a form for each cell of the image, and it has the cells below k.
pub record HasForms (image : Typed) (defaults : Held) (k : ℕ) : Type 0 where
  pub forms : length (formed defaults) ≡ length image.numbers
  pub end : k ≤ length image.numbers

module _ (set : DescSet) where
  -- ---- a part of the set

  -- The part's cells are among the image's, and have the kinds of its slots.
  pub record CanWriteFields (at : PartAt) (image : Typed) : Type 0 where
    pub spot : HasSpot (described set) at image.numbers
    pub can : CanWrite image.kinds (spot_slots (described set) at image.numbers)

  -- The bytes of the part's fields.
  abbrev pub fields_bytes : PartAt → List ℤ → List ℕ
  fields_bytes at numbers = zeroed numbers (spot_slots (described set) at numbers)

  -- The part's cells are among the image's, each of which has a form.
  pub record CanJudge (at : PartAt) (image : Typed) (defaults : Held) : Type 0 where
    pub spot : HasSpot (described set) at image.numbers
    pub forms : length (formed defaults) ≡ length image.numbers

  -- Whether the part may be written.
  abbrev pub is_part_fine : PartAt → Typed → Held → Bool
  is_part_fine at image defaults =
      is_fine (formed defaults) image.numbers (spot_slots (described set) at image.numbers) at.base
      (own_cell_count (described set) (desc_at (described set) at.part))

  -- ---- whether the image of a device may be written

  -- The set has device i.
  abbrev pub HasDevice : ℕ → Type 0
  HasDevice i = i < length (described set).devices

  -- The image is one of device i.
  abbrev pub IsOf : ℕ → Typed → Type 0
  IsOf i image = IsOfDevice (described set) i (state_of image)

  -- The image is one of device i, which has subsection j.
  pub record HasSub (i : ℕ) (image : Typed) (j : ℕ) : Type 0 where
    pub device : IsOfDevice (described set) i (state_of image)
    pub is_sub : j < length (device_at (described set) i).subs

  -- `b` says whether the image is one of device i and may be written.
  pub record Judges (i : ℕ) (image : Typed) (b : Bool) : Type 0 where
    pub ready : OnTrue b (IsReady (described set) (device_at (described set) i) (state_of image))
    pub of : OnTrue b (IsImageOf (described set) i image)
    pub other : OnFalse b (IsImageOf (described set) i image → IsReady (described set) (device_at (described set) i) (state_of image) → ⊥)

  -- Whether the device's own fields may be written.
  abbrev pub is_own_fine : ℕ → Typed → Bool
  is_own_fine i image = judged.own_fine (described set) (device_at (described set) i) (state_of image)

  -- Whether all its subsections may be written.
  abbrev pub are_subs_fine : ℕ → Typed → Bool
  are_subs_fine i image = judged.all_subs_fine (described set) (device_at (described set) i) (state_of image)

  -- Whether subsection j may be written, as it came.
  abbrev pub is_sub_fine : ℕ → Typed → ℕ → Bool
  is_sub_fine i image j = judged.sub_fine_at (described set) i (state_of image) j

  -- Whether all cells of subsection j are at their defaults.
  abbrev pub is_bare : ℕ → Typed → ℕ → Bool
  is_bare i image j = judged.is_bare_at (described set) i (state_of image) j

  -- Whether subsection j may be written, if it came at version v.
  abbrev pub is_sent_fine : ℕ → Typed → ℕ → ℕ → Bool
  is_sent_fine i image j v = judged.is_sent_fine_at (described set) i (state_of image) j v

  -- ---- a section

  -- The image is one of device i, which has subsection j, and may be written.
  pub record CanWriteSub (i j : ℕ) (image : Typed) : Type 0 where
    pub is_device : i < length (described set).devices
    pub is_sub : j < length (device_at (described set) i).subs
    pub kinds : image.kinds ≡ kinds_at (described set) i
    pub ready : IsReady (described set) (device_at (described set) i) (state_of image)

  -- The bytes of subsection j, if it came.
  abbrev pub sub_bytes : ℕ → ℕ → Typed → List ℕ
  sub_bytes i j image = written_sub (described set) i (state_of image) j (get_or image.came j None)

  -- ---- a stream

  -- The machine is one of the set's, if one is named.
  abbrev pub HasMachine : Option ℕ → Type 0
  HasMachine m = IfSome m (λ k. k < length (described set).machines)

  -- The images are the set's and may be written.
  pub record CanWriteSections (images : List Typed) : Type 0 where
    pub of : AreImagesOf (described set) images
    pub ready : AreReady (described set) (map state_of images)

  -- The bytes of a configuration, if a machine is named.
  abbrev pub configuration_bytes : Option ℕ → List ℕ
  configuration_bytes m = optional streams.configuration (at_option (described set).machines m)

  -- The bytes of the sections of all devices.
  abbrev pub sections_bytes : List Typed → List ℕ
  sections_bytes images = streams.written_sections (described set) 0 (described set).devices (map state_of images)
