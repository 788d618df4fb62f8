-- What the calls of this crate require and ensure, over the sets and the loader that they borrow.
use Rattle.std.specs.Prelude.{◌≡◌, ℕ, ◌+◌, ◌<◌, Bool, List, length, map, Option, Some, None, IfOk, IfSome, Result}
use Rattle.std.specs.List.{slice_get}
use Rattle.std.specs.declared.alloc.Global.{Global}
use Rattle.std.specs.declared.vec.Vec.{Vec}
use Rattle.vms_spec.specs.Images.{Image}
use Rattle.vms_spec.specs.Lists.{at_option}
use Rattle.vms_spec.specs.Streams.{written, AreReady}
use Rattle.vms_desc.specs.Described.{described, device_at}
use Rattle.vms_desc.specs.declared.set.DescSet.{DescSet}
use Rattle.vms_image.specs.Typed.{AreImagesOf, IsImageOf, Typed, default_at, state_of}
use Rattle.vms_frames.specs.declared.fault.Refusal.{Refusal}
use Rattle.vms_check.specs.Comparing.{first_mismatch}
use Rattle.vms_check.specs.declared.mismatch.Mismatch.{Mismatch}
use Rattle.vms_load.specs.Kept.{loads}
use Rattle.vms_load.specs.Staging.{devices_most}
use Rattle.vms_load.specs.declared.loader.Loader.{Loader}
use Rattle.vms_marks.specs.declared.stream_head.TheConstants.{BESIDE_SECTIONS}
use Rattle.vms_counter_laws.specs.Candidates.{admits, default_images, lacking, machine_for, raised, raised_cell, raised_fields, raised_image, with_image}
use Rattle.vms_counter.specs.Found.{AreStates, HasRoom, IsRight}
use Rattle.vms_counter.specs.Raising.{IsExcess, IsState, as_excess}
use Rattle.vms_counter.specs.Trying.{HasFailed, IsRefused, IsTaken, Tries}
use Rattle.vms_counter.specs.declared.finding.Finding.{Finding}
use Rattle.vms_counter.specs.declared.raising.Excess.{Excess}
use Rattle.vms_counter.specs.declared.raising.Raise.{Raise}
use Rattle.vms_counter.specs.declared.second.DeviceField.{DeviceField}
use Rattle.vms_counter.specs.declared.trying.Trial.{Trial}

-- ---- the machine of a candidate

-- `m` is the number of the first machine that isn't among the names.
pub record IsLacking (names machines : List (List ℕ)) (m : Option ℕ) : Type 0 where
  pub name : at_option machines m ≡ lacking names machines
  pub inside : IfSome m (λ k. k < length machines)

-- `m` is the machine that a candidate's stream names, by its number in the older set.
pub record NamesMachine (old new : DescSet) (mismatch : Mismatch) (m : Option ℕ) : Type 0 where
  pub name : at_option (described old).machines m ≡ machine_for (described old) (described new) mismatch
  pub inside : IfSome m (λ k. k < length (described old).machines)

-- ---- trying a state

module _ (trial : Trial) where
  -- The stream of these images, without a description.
  abbrev pub stream_in : List Typed → List ℕ
  stream_in images =
      let old = described trial.old.now in
      written old (at_option old.machines trial.machine) (map state_of images) None

  -- The machine and the images are the older set's and may be written, and their stream doesn't fill the room.
  pub record CanStream (images : List Typed) : Type 0 where
    pub machine : IfSome trial.machine (λ m. m < length (described trial.old.now).machines)
    pub of : AreImagesOf (described trial.old.now) images
    pub ready : AreReady (described trial.old.now) (map state_of images)
    pub room : length (stream_in images) < trial.room

  -- The machine and the images are the older set's, and no stream fills the room.
  pub record CanTry (images : List Typed) : Type 0 where
    pub machine : IfSome trial.machine (λ m. m < length (described trial.old.now).machines)
    pub of : AreImagesOf (described trial.old.now) images
    pub room : HasRoom (described trial.old.now) trial.room

  -- The loader, whose set is unchanged, has been tried on the stream of these images.
  pub record TriesOn {E : Type 0} (images : List Typed) (before after : Loader) (result : Result (Option Refusal) E) : Type 0 where
    pub tries : IfOk result (Tries (described trial.old.now) (loads before) (at_option (described trial.old.now).machines trial.machine) (map state_of images))
    pub set : loads after ≡ loads before

  -- The finding is right for the trial's set and the loader's, whose set is unchanged.
  pub record FindsFor {E : Type 0} (before after : Loader) (result : Result Finding E) : Type 0 where
    pub right : IfOk result (IsRight (described trial.old.now) (loads before))
    pub set : loads after ≡ loads before

  -- The first candidate doesn't show the mismatch, and these images are the second.
  pub record HasSecond (new : Loader) (images : List Typed) : Type 0 where
    pub failed : HasFailed trial (loads new)
    pub second : raised (described trial.old.now) (loads new) trial.mismatch ≡ Some (map state_of images)
    pub of : AreImagesOf (described trial.old.now) images

-- The loader, whose set is unchanged, refuses the bytes so, or reads them as a stream.
pub record ReadsBytes (before after : Loader) (bytes : List ℕ) (refusal : Option Refusal) : Type 0 where
  pub refused : IfSome refusal (IsRefused (loads before) bytes)
  pub taken : refusal ≡ None → IsTaken (loads before) bytes
  pub set : loads after ≡ loads before

-- The mismatch is the first one of the older set and the loader's.
abbrev pub IsFirstOf : DescSet → Loader → Mismatch → Type 0
IsFirstOf old new mismatch = first_mismatch (described old) (loads new) ≡ Some mismatch

-- The finding is right for the two sets, and the loader's set is unchanged.
pub record FindsIn {E : Type 0} (old : DescSet) (before after : Loader) (result : Result Finding E) : Type 0 where
  pub right : IfOk result (IsRight (described old) (loads before))
  pub set : loads after ≡ loads before

-- The bytes are more than any stream of the set has.
pub record IsRoomOf {E : Type 0} (set : DescSet) (result : Result ℕ E) : Type 0 where
  pub bytes : IfOk result (λ room. room ≡ BESIDE_SECTIONS + devices_most (described set) (described set).devices)
  pub room : IfOk result (HasRoom (described set))

-- ---- the second candidate

module _ (set : DescSet) where
  -- Device i is one of the set.
  abbrev pub HasDevice : ℕ → Type 0
  HasDevice i = i < length (described set).devices

  -- The image is one of device i.
  pub record HasImage (i : ℕ) (x : Typed) : Type 0 where
    pub device : i < length (described set).devices
    pub image : IsImageOf (described set) i x

  -- The image is the default one of the device whose number is to be raised.
  pub record HasDefault (raise : Raise) (x : Typed) : Type 0 where
    pub device : raise.device < length (described set).devices
    pub image : x ≡ default_at (described set) raise.device

  -- The number in this cell of the device's image can have the raised value.
  abbrev pub admits_in : Raise → ℕ → Bool
  admits_in raise cell = admits (described set) (device_at (described set) raise.device) raise.field cell raise.value

  -- The image is device i's with this number raised, if it can be.
  abbrev pub IsRaised : ℕ → Excess → Option Typed → Type 0
  IsRaised i excess image = IsState (described set) i (raised_image (described set) i (device_at (described set) i) (as_excess excess)) image

  -- The same for the cell of the number.
  abbrev pub IsRaisedAt : Raise → ℕ → Option Typed → Type 0
  IsRaisedAt raise cell image =
      let d = device_at (described set) raise.device in
      IsState (described set) raise.device (raised_cell (described set) d raise.field raise.value (Some cell)) image

  -- The images are the default ones, but for device i this one with its number raised, if it can be.
  abbrev pub AreWithRaised : ℕ → Excess → Option (Vec Typed Global) → Type 0
  AreWithRaised i excess images =
      let image = raised_image (described set) i (device_at (described set) i) (as_excess excess) in
      AreStates (described set) (with_image (default_images (described set)) i image) images

  -- The images are the default ones, but for device i this one.
  abbrev pub AreWithImage : ℕ → Typed → Option (Vec Typed Global) → Type 0
  AreWithImage i image images = AreStates (described set) (with_image (default_images (described set)) i (Some (state_of image))) images

module _ (old new : DescSet) where
  -- The images are the second candidate, if there is one.
  abbrev pub AreRaised : Mismatch → Option (Vec Typed Global) → Type 0
  AreRaised mismatch images = AreStates (described old) (raised (described old) (described new) mismatch) images

  -- The second candidate for two fields of devices, if there is one.
  abbrev pub raised_for : DeviceField → DeviceField → Option (List Image)
  raised_for one other =
      let d = slice_get (described old).devices one.device in
      let e = slice_get (described new).devices other.device in
      raised_fields (described old) one.device d one.field e other.field

  -- The images are that one.
  abbrev pub AreRaisedFor : DeviceField → DeviceField → Option (Vec Typed Global) → Type 0
  AreRaisedFor one other images = AreStates (described old) (raised_for one other) images

  -- The counting field and the capacity that lead to it.
  abbrev pub IsExcessFor : DeviceField → DeviceField → Option Excess → Type 0
  IsExcessFor one other excess = IsExcess (described old) one.device (raised_for one other) excess
