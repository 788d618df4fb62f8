-- What the calls of a conversion require and ensure, over the sets and the loader that they borrow.
use Rattle.std.specs.Prelude.{◌≡◌, ℕ, ◌<◌, Bool, List, [], length, get_or, map, Option, Result, IfSome, ℤ}
use Rattle.std.specs.Bool.{OnFalse, OnTrue}
use Rattle.dev_base.specs.declared.limits.TheConstants.{NEWEST}
use Rattle.vms_check.specs.Carrying.{carried}
use Rattle.vms_check.specs.Comparing.{Compatible}
use Rattle.vms_desc.specs.Described.{described, device_at}
use Rattle.vms_desc.specs.Formed.{shipped_set}
use Rattle.vms_desc.specs.declared.set.DescSet.{DescSet}
use Rattle.vms_image.specs.Typed.{AreImagesOf, IsImageOf, Typed, default_at, state_of}
use Rattle.vms_load.specs.Good.{AreKept}
use Rattle.vms_load.specs.Lean.{has, loads}
use Rattle.vms_load.specs.Staging.{IsMachine, name_of}
use Rattle.vms_load.specs.declared.lean.LeanLoader.{LeanLoader}
use Rattle.vms_spec.specs.Streams.{AreReady}
use Rattle.vms_convert.specs.Converted.{recast_each}
use Rattle.vms_convert.specs.Losing.{AreWritable, FirstInvalid, Judges}
use Rattle.vms_convert.specs.Lost.{IsValidAt, numbers_in}
use Rattle.vms_convert.specs.Recast.{recast}
use Rattle.vms_convert.specs.Returning.{IsReturned}
use Rattle.vms_convert.specs.Returns.{AreReturned, IsRecastFor}
use Rattle.vms_convert.specs.Rooms.{AreFresh, AreRoutes, IsRoom, IsRoute}
use Rattle.vms_convert.specs.declared.fault.Loss.{Loss}
use Rattle.vms_convert.specs.declared.returning.Pair.{Pair}
use Rattle.vms_convert.specs.declared.returns.LostCell.{LostCell}
use Rattle.vms_convert.specs.declared.room.Room.{Room}
use Rattle.vms_convert.specs.declared.room.Route.{Route}

-- The recast numbers of each device that the loader keeps, in the order of its set.
abbrev pub wanted_of : DescSet → LeanLoader → List (List ℤ)
wanted_of to loader = recast_each (described to) (loads loader).devices (numbers_in (has loader))

-- ---- one device

module _ (pair : Pair) where
  -- The route and the image are those of the pair's devices. The numbers may still be in the newest set's form.
  pub record CanReturnImage (source : Typed) (r : Route) (image : Typed) : Type 0 where
    pub device : pair.device < length (described pair.to.now).devices
    pub route : IsRoute (described pair.to.now) (loads pair.loader.now) pair.device pair.other r
    pub of : IsImageOf (loads pair.loader.now) pair.other source
    pub recast : IsRecastFor (described pair.to.now) (loads pair.loader.now) pair.other source.numbers
    pub fresh : image ≡ default_at (described pair.to.now) pair.device

  -- The same of a loader of the newest set, which keeps the images of a stream.
  pub record CanReturnAt (r : Route) (image : Typed) : Type 0 where
    pub newest : loads pair.loader.now ≡ shipped_set NEWEST
    pub kept : AreKept (loads pair.loader.now) (has pair.loader.now)
    pub device : pair.device < length (described pair.to.now).devices
    pub route : IsRoute (described pair.to.now) (loads pair.loader.now) pair.device pair.other r
    pub fresh : image ≡ default_at (described pair.to.now) pair.device

  -- `image` is what these numbers become, and `cell` is the first one that it doesn't carry.
  abbrev pub Returns : List ℤ → Typed → Option ℕ → Type 0
  Returns numbers image cell = IsReturned (described pair.to.now) (loads pair.loader.now) pair.device pair.other numbers image cell

  -- The same of the recast numbers of an image.
  abbrev pub ReturnsImage : Typed → Typed → Option ℕ → Type 0
  ReturnsImage source image cell = Returns (recast (described pair.to.now) (device_at (loads pair.loader.now) pair.other) source.numbers) image cell

  -- The same of the image that the loader keeps.
  abbrev pub ReturnsKept : Typed → Option ℕ → Type 0
  ReturnsKept image cell = Returns (get_or (wanted_of pair.to.now pair.loader.now) pair.other []) image cell

-- ---- all devices

module _ (to : DescSet) (loader : LeanLoader) where
  -- The loader keeps the images of a stream of the newest set; the routes and the images are those of a room.
  pub record CanReturnAll (rs : List Route) (images : List Typed) : Type 0 where
    pub newest : loads loader ≡ shipped_set NEWEST
    pub kept : AreKept (loads loader) (has loader)
    pub routes : AreRoutes (described to) (loads loader) (length (described to).devices) rs
    pub fresh : AreFresh (described to) images

  -- The images are what the loader's become, and `lost` is the first cell that they don't carry.
  abbrev pub ReturnsAll : List Typed → Option LostCell → Type 0
  ReturnsAll images lost = AreReturned (described to) (loads loader) (wanted_of to loader) images lost

  -- The loader keeps a stream of the newest set, which reads what the target writes, and its images have been returned.
  pub record CanJudge (m : Option ℕ) (images : List Typed) (lost : Option LostCell) : Type 0 where
    pub newest : loads loader ≡ shipped_set NEWEST
    pub compatible : Compatible (described to) (loads loader)
    pub kept : AreKept (loads loader) (has loader)
    pub machine : IsMachine (loads loader).machines m
    pub returned : ReturnsAll images lost

  -- All that the loader keeps is kept in the target, or this is lost first.
  abbrev pub JudgesLoaded : Option ℕ → List Typed → Result (Option ℕ) Loss → Type 0
  JudgesLoaded machine images result =
      let backs = map state_of images in
      Judges (described to) (loads loader) (name_of (loads loader) machine) (wanted_of to loader) (numbers_in (carried (described to) (loads loader) backs)) backs result

  -- The loader has the newest set, which reads what the target writes, and the room is for these two.
  pub record CanConvert (r : Room) : Type 0 where
    pub newest : loads loader ≡ shipped_set NEWEST
    pub compatible : Compatible (described to) (shipped_set NEWEST)
    pub room : IsRoom (described to) (shipped_set NEWEST) r

  -- The same once it has read a stream of this machine.
  pub record CanConvertKept (m : Option ℕ) (r : Room) : Type 0 where
    pub newest : loads loader ≡ shipped_set NEWEST
    pub compatible : Compatible (described to) (shipped_set NEWEST)
    pub kept : AreKept (shipped_set NEWEST) (has loader)
    pub machine : IsMachine (shipped_set NEWEST).machines m
    pub room : IsRoom (described to) (shipped_set NEWEST) r

-- ---- what is lost

module _ (to new : DescSet) where
  -- Device k is one of the newer set, and the images are the older set's.
  pub record CanCheck (images : List Typed) (k : ℕ) : Type 0 where
    pub device : k < length (described new).devices
    pub writable : AreWritable (described to) images

  -- `b` says whether device k's image in the older set is valid, if it has one.
  pub record ChecksImage (images : List Typed) (k : ℕ) (b : Bool) : Type 0 where
    pub valid : OnTrue b (IsValidAt (described to) (described new) (map state_of images) k)
    pub other : OnFalse b (IsValidAt (described to) (described new) (map state_of images) k → ⊥)

  -- The first of the newer set's devices whose image isn't valid in the older set.
  abbrev pub FindsInvalid : List Typed → Option ℕ → Type 0
  FindsInvalid images result = FirstInvalid (described to) (described new) (map state_of images) result

-- The machine and the images are the set's, and may be written.
pub record CanWrite (to : DescSet) (m : Option ℕ) (images : List Typed) : Type 0 where
  pub machine : IfSome m (λ k. k < length (described to).machines)
  pub of : AreImagesOf (described to) images
  pub ready : AreReady (described to) (map state_of images)
