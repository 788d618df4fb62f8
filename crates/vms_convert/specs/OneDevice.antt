-- What a call on one device of a set requires, and what it does to an image of the device.
use Rattle.std.specs.Prelude.{◌≡◌, ℕ, ◌<◌, List, length, get_or, map, slice_set, Option, None, ℤ}
use Rattle.vms_spec.specs.Images.{image_slots}
use Rattle.vms_spec.specs.Layout.{no_cell, device_cells}
use Rattle.vms_desc.specs.Asks.{needed_at}
use Rattle.vms_desc.specs.Described.{described, device_at}
use Rattle.vms_desc.specs.declared.set.DescSet.{DescSet}
use Rattle.vms_image.specs.Typed.{IsImageOf, Typed, default_at, state_of}
use Rattle.vms_walk.specs.Steps.{spot_slots, steps_of}
use Rattle.vms_walk.specs.declared.fields.PartAt.{PartAt}
use Rattle.vms_walk.specs.declared.step.WalkStep.{WalkStep}
use Rattle.dev_images.specs.Images.{bare, needed_from}
use Rattle.vms_convert.specs.Back.{AreSettled, AreTaken, IsBack}
use Rattle.vms_convert.specs.Bringing.{ArePutAt, SettlesSub, marked_by, part_slots}
use Rattle.vms_convert.specs.Changes.{Changes}
use Rattle.vms_convert.specs.Giving.{MayGive, give_step}
use Rattle.vms_convert.specs.Putting.{AreSources}
use Rattle.vms_convert.specs.declared.giving.Gift.{Gift}

module _ (set : DescSet) where
  -- Device i is one of the set.
  abbrev pub HasDevice : ℕ → Type 0
  HasDevice i = i < length (described set).devices

  -- The cell is one of device i.
  pub record HasCell (i c : ℕ) : Type 0 where
    pub device : HasDevice i
    pub cell : c < length (device_cells (described set) (device_at (described set) i))

  -- The image is one of device i.
  pub record HasImage (i : ℕ) (image : Typed) : Type 0 where
    pub device : HasDevice i
    pub of : IsImageOf (described set) i image

  -- The image is one of device i, which has subsection j.
  pub record HasSubImage (i j : ℕ) (image : Typed) : Type 0 where
    pub device : HasDevice i
    pub sub : j < length (device_at (described set) i).subs
    pub of : IsImageOf (described set) i image

  -- The image is one of device i, which has the cell.
  pub record HasCellImage (i c : ℕ) (image : Typed) : Type 0 where
    pub device : HasDevice i
    pub cell : c < length (device_cells (described set) (device_at (described set) i))
    pub of : IsImageOf (described set) i image

  -- The image is one of device i, in which no subsection is present.
  pub record HasBareImage (i : ℕ) (image : Typed) : Type 0 where
    pub device : HasDevice i
    pub of : IsImageOf (described set) i image
    pub none : image.came ≡ map (λ s. None) (device_at (described set) i).subs

  -- The steps of a walk over a part.
  abbrev pub part_steps : PartAt → List ℤ → List WalkStep
  part_steps part numbers = steps_of (spot_slots (described set) part numbers)

-- ---- the numbers of a newer device, which an image of the set takes

module _ (set : DescSet) (i : ℕ) where
  -- The image is the default one of device i, and its cells' partners are cells of `source` of their kinds.
  pub record CanTake (source : Typed) (partners : List (Option ℕ)) (image : Typed) : Type 0 where
    pub device : HasDevice set i
    pub sources : AreSources image.kinds source.numbers partners
    pub fresh : image ≡ default_at (described set) i

  -- `now` is the image that comes back.
  pub record ComesBack (source : Typed) (partners : List (Option ℕ)) (now : Typed) : Type 0 where
    pub back : IsBack (described set) (device_at (described set) i) partners source.numbers (state_of now)
    pub of : IsImageOf (described set) i now

  -- The image's cells have taken their partners' numbers, and nothing else has changed.
  pub record TakesAll (source : Typed) (partners : List (Option ℕ)) (before now : Typed) : Type 0 where
    pub taken : AreTaken (described set) (device_at (described set) i) partners source.numbers now.numbers
    pub rest : now ≡ record before { numbers = now.numbers }

  -- The cells of each subsection that isn't needed are at their defaults, and nothing else has changed.
  pub record SettlesAll (before now : Typed) : Type 0 where
    pub settled : AreSettled (described set) (device_at (described set) i) before.numbers now.numbers
    pub rest : now ≡ record before { numbers = now.numbers }

  -- This is so for subsection j.
  abbrev pub SettlesOne : ℕ → Typed → Typed → Type 0
  SettlesOne j before now = SettlesSub (described set) i j before now

  -- The cells of subsection j are at their defaults, and nothing else has changed.
  pub record PutsDefaults (j : ℕ) (before now : Typed) : Type 0 where
    pub puts : ArePutAt (described set) i j before.numbers now.numbers
    pub rest : now ≡ record before { numbers = now.numbers }

  -- The default of a cell.
  abbrev pub default_in : ℕ → ℤ
  default_in cell = (get_or (device_cells (described set) (device_at (described set) i)) cell no_cell).default

  -- The cell is at its default, and nothing else has changed.
  abbrev pub PutsDefault : ℕ → Typed → Typed → Type 0
  PutsDefault cell before now = now ≡ record before { numbers = slice_set before.numbers cell (default_in cell) }

  -- Exactly the subsections that are needed are present, each at its version.
  abbrev pub MarksAll : Typed → Typed → Type 0
  MarksAll before now =
      let d = device_at (described set) i in
      now ≡ record before { came = needed_from (described set) d (bare d before.numbers) 0 d.subs }

  -- Subsection j is present at its version, if it is needed.
  abbrev pub MarksOne : ℕ → Typed → Typed → Type 0
  MarksOne j before now =
      let needed = needed_at (described set) i j before.numbers in
      now ≡ record before { came = marked_by needed (described set) i j before.came }

-- ---- the numbers of an older device, which an image of the newer set receives

module _ (set : DescSet) (i : ℕ) where
  -- The gift is an image of device i at its set's version, and its cells' partners are cells of the target.
  pub record CanGive (gift : Gift) (target : Typed) : Type 0 where
    pub device : HasDevice set i
    pub of : IsImageOf (described set) i gift.image.now
    pub version : gift.image.now.version ≡ (device_at (described set) i).desc.version
    pub may : MayGive gift.image.now gift.partners.now target

  -- The gift is an image of device i, which has subsection j, and its cells' partners are cells of the target.
  pub record CanGiveSub (j : ℕ) (gift : Gift) (target : Typed) : Type 0 where
    pub device : HasDevice set i
    pub sub : j < length (device_at (described set) i).subs
    pub of : IsImageOf (described set) i gift.image.now
    pub may : MayGive gift.image.now gift.partners.now target

  -- The partners of all cells in the bytes have received their numbers.
  abbrev pub GivesAll : Gift → Typed → Typed → Type 0
  GivesAll gift before now =
      let slots = image_slots (described set) (device_at (described set) i) (state_of gift.image.now) in
      Changes (give_step gift.partners.now gift.image.now.numbers) (steps_of slots) before now

  -- The partners of subsection j's cells have, if it is present.
  abbrev pub GivesSub : ℕ → Gift → Typed → Typed → Type 0
  GivesSub j gift before now =
      let slots = part_slots (described set) i j (state_of gift.image.now) in
      Changes (give_step gift.partners.now gift.image.now.numbers) (steps_of slots) before now
