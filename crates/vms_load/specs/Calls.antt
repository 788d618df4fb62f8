-- What the calls of the loader need and do, over the set that they borrow, a cursor and its source.
use Rattle.std.specs.Prelude.{◌≡◌, ℕ, ◌+◌, ◌<◌, ◌≤◌, ◌^◌, Bool, true, false, List, length, get_or, map, Option, Some, None, IfErr, IfOk, OnErr, OnOk, Result, ℤ, ◌∷◌, []}
use Rattle.std.specs.List.{slice_get}
use Rattle.vms_kinds.specs.Codes.{InRange, width}
use Rattle.vms_kinds.specs.declared.Kind.{Kind}
use Rattle.vms_spec.specs.declared.Reason.{Reason}
use Rattle.vms_spec.specs.declared.TheConstants.{LONGEST_NAME}
use Rattle.vms_spec.specs.Images.{default_image}
use Rattle.vms_spec.specs.Sets.{Set}
use Rattle.vms_spec.specs.Taking.{take_slot}
use Rattle.vms_spec.specs.Units.{Configuration, End, Head as HeadUnit}
use Rattle.vms_io.specs.Told.{Intake}
use Rattle.vms_bodies.specs.Whole.{reading_on}
use Rattle.vms_stream.specs.Judge.{judge, reading}
use Rattle.vms_stream.specs.Judged.{ask}
use Rattle.vms_stream.specs.State.{State, Before, Free, at_start, by_state}
use Rattle.vms_marks.specs.declared.configuration.TheConstants.{CONFIGURATION_FRONT}
use Rattle.vms_marks.specs.declared.foot.TheConstants.{FOOT_LENGTH}
use Rattle.vms_marks.specs.declared.head.Head.{Head}
use Rattle.vms_marks.specs.declared.head.TheConstants.{LONGEST_HEAD}
use Rattle.vms_marks.specs.declared.sub_head.TheConstants.{LONGEST_SUB_HEAD}
use Rattle.vms_frames.specs.Reads.{ReadsAs}
use Rattle.vms_frames.specs.Stands.{Stand}
use Rattle.vms_frames.specs.declared.fault.FrameFault.{FrameFault}
use Rattle.vms_frames.specs.declared.units.Between.{Between}
use Rattle.vms_frames.specs.declared.units.Between.TheVariants.{AfterConfiguration, First}
use Rattle.vms_parts.specs.Devices.{device_at}
use Rattle.vms_parts.specs.Views.{device_of}
use Rattle.vms_parts.specs.declared.types.Device.{Device}
use Rattle.vms_desc.specs.Described.{described}
use Rattle.vms_desc.specs.Parts.{desc_at}
use Rattle.vms_desc.specs.declared.set.DescSet.{DescSet}
use Rattle.vms_image.specs.Typed.{AreImagesOf, IsImageOf, Typed, default_at, state_of as untyped}
use Rattle.vms_walk.specs.Inside.{Keeps}
use Rattle.vms_walk.specs.Steps.{HasSpot, capacities_of, spot_slots, steps_of}
use Rattle.vms_walk.specs.declared.fields.PartAt.{PartAt}
use Rattle.vms_walk.specs.declared.step.WalkStep.{WalkStep}
use Rattle.vms_load.specs.Bodies.{AreOfKinds, FitsStep, ReadsCapped, ReadsConstant, TakesOn, progress}
use Rattle.vms_load.specs.Going.{GoesBehind, GoesOn, GoesThrough, Moves}
use Rattle.vms_load.specs.Heads.{in_section, opened_at, section_opened, sub_opened}
use Rattle.vms_load.specs.Parts.{HasNewNumbers, IsNextPart, IsOfDevice, IsOpen, IsSame, after_fields, after_part, bytes_of, bytes_of_part, in_fields, part_due, subs_due}
use Rattle.vms_load.specs.Reading.{Fills, Told, slot_of, step_long, told}
use Rattle.vms_load.specs.Reads.{IsRefused, MayTake, Settles}
use Rattle.vms_load.specs.Staging.{AreShaped, CanConfigure, IsMachine, IsOf, IsPassed, accepted_of, due_at, no_image, read_from, sections_due, spot_at, spot_of, state_of}
use Rattle.vms_load.specs.declared.fault.LoadFault.{LoadFault}
use Rattle.vms_load.specs.declared.parts.Open.{Open}
use Rattle.vms_load.specs.declared.parts.Section.{Section}
use Rattle.vms_load.specs.declared.staged.Staged.{Staged}

-- A cursor, and what is known of its source.
pub record Input : Type 0 where
  pub cursor : Stand
  pub source : Intake

-- These two together.
abbrev pub input : Stand → Intake → Input
input cursor source = record { cursor = cursor; source = source }

-- ---- numbers

-- A number of the kind is taken, at most `most`, and no byte is held.
pub record TakesNumber (kind : Kind) (most : Option ℕ) (from to : Input) (result : Result ℤ FrameFault) : Type 0 where
  pub range : IfOk result (InRange kind)
  pub reads : ReadsAs from.source to.source (λ _. width kind) (width kind) (ReadsCapped kind (capacities_of most) from.cursor.at) result
  pub place : OnOk result (to.cursor.at ≡ from.cursor.at + width kind)
  pub held : OnOk result (to.cursor.held ≡ None)

-- The number `z` of the kind is taken, and no byte is held.
pub record TakesConstant (kind : Kind) (z : ℤ) (from to : Input) (result : Result (Unit {0}) FrameFault) : Type 0 where
  pub reads : ReadsAs from.source to.source (λ _. width kind) (width kind) (ReadsConstant kind z from.cursor.at) result
  pub place : OnOk result (to.cursor.at ≡ from.cursor.at + width kind)
  pub held : OnOk result (to.cursor.held ≡ None)

-- ---- the steps of a part

-- The step's cell is one of the image's, and the cursor holds no byte.
pub record CanTakeStep (image : Typed) (x : WalkStep) (stand : Stand) : Type 0 where
  pub step : FitsStep image x
  pub cursor : MayTake 0 stand

-- The step is taken into the image, or the image stays as it was.
pub record TakesStep (x : WalkStep) (old new : Typed) (from to : Input) (result : Result (Unit {0}) FrameFault) : Type 0 where
  pub reads : TakesOn from.source to.source (step_long x) from.cursor.at to.cursor.at
      (λ rest. take_slot (slot_of x) (progress old.numbers from.cursor.at rest)) new.numbers result
  pub held : OnOk result (to.cursor.held ≡ None)
  pub kept : new ≡ record old { numbers = new.numbers }
  pub keeps : Keeps (x ∷ []) old.numbers new.numbers
  pub stopped : OnErr result (new ≡ old)

module _ (set : DescSet) (at : PartAt) where
  -- The part's cells are among the image's and of their kinds, and its bytes may be taken.
  pub record CanReadPart (image : Typed) (stand : Stand) : Type 0 where
    pub spot : HasSpot (described set) at image.numbers
    pub kinds : (numbers : List ℤ) → AreOfKinds image.kinds (spot_slots (described set) at numbers)
    pub cursor : MayTake (bytes_of (described set) (desc_at (described set) at.part)) stand

  -- The part's steps are taken into the image, or some of them, and then a fault came.
  pub record ReadsPart (old new : Typed) (from to : Input) (result : Result (Unit {0}) FrameFault) : Type 0 where
    pub fills : Fills (steps_of (spot_slots (described set) at new.numbers)) (told old from.cursor.at from.source) result (told new to.cursor.at to.source)
    pub held : OnOk result (to.cursor.held ≡ None)

-- ---- heads

-- There is a flag for each device.
abbrev pub AreOfDevices : DescSet → List Bool → Type 0
AreOfDevices set came = length came ≡ length (described set).devices

-- The section head at an offset opens a device that hasn't come, or is refused.
pub record OpensSection (set : DescSet) (came : List Bool) (head : Head) (at : ℕ) (result : Result ℕ LoadFault) : Type 0 where
  pub short : length head.name.items ≤ LONGEST_NAME
  pub refused : IfErr result IsRefused
  pub fresh : IfOk result (λ k. (k < length (described set).devices) × (slice_get came k ≡ Some false))
  pub opened : result ≡ opened_at at (section_opened (described set) came head.name.items head.instance head.version)

-- The image has an entry for each subsection of the device.
pub record HasSubs (device : Device) (image : Typed) : Type 0 where
  pub long : length image.came ≡ length (device_of device).subs
  pub few : length (device_of device).subs < 2 ^ 32

-- A subsection head of this name and version opens a subsection that hasn't come, or is refused.
pub record OpensSub (device : Device) (image : Typed) (name : List ℕ) (version : ℕ) (result : Result ℕ Reason) : Type 0 where
  pub short : length name ≤ LONGEST_NAME
  pub opened : (k : ℕ) → in_section k result ≡ sub_opened k (device_of device) image.came name version

-- ---- the parts of a section

module _ (set : DescSet) (s : Section) where
  -- The part has begun in the image, and the bytes of its fields may be taken.
  pub record CanReadFields (part : Open) (old : Typed) (stand : Stand) : Type 0 where
    pub image : IsOfDevice (described set) s.device old
    pub begun : IsOpen (device_at (described set) s.device) (untyped old) part.sub part.version
    pub cursor : MayTake (bytes_of_part (described set) (device_at (described set) s.device) part.sub) stand

  -- The fields of the part are taken into the image, or refused.
  pub record ReadsFields (part : Open) (old new : Typed) (from to : Input) (result : Result (Unit {0}) LoadFault) : Type 0 where
    pub reads : (names : List (List ℕ)) (state : State) → s.device < length state.images
        → GoesOn from.source to.source (bytes_of_part (described set) (device_at (described set) s.device) part.sub)
        (in_fields (described set) names state s part.sub (untyped old))
        (λ _. after_fields (described set) names state s part.sub (untyped new)) from.cursor to.cursor result
    pub held : OnOk result (to.cursor.held ≡ None)
    pub moves : Moves from.cursor to.cursor (bytes_of_part (described set) (device_at (described set) s.device) part.sub) (λ _. 0) result
    pub image : HasNewNumbers old new

  -- The image is of the section's device, and the cursor holds no byte.
  pub record CanReadAfter (old : Typed) (stand : Stand) : Type 0 where
    pub image : IsOfDevice (described set) s.device old
    pub cursor : MayTake 0 stand

  -- What follows the fields of a part is taken: the head of the next part, or the end of the section.
  pub record ReadsAfter (later : Section) (old new : Typed) (from to : Input) (result : Result (Option Open) LoadFault) : Type 0 where
    pub reads : (names : List (List ℕ)) (state : State) (part : Option ℕ) → s.device < length state.images
        → GoesOn from.source to.source LONGEST_SUB_HEAD (after_fields (described set) names state s part (untyped old))
        (after_part (described set) names state later (untyped new)) from.cursor to.cursor result
    pub section : IsSame s later
    pub next : IfOk result (IsNextPart (device_at (described set) s.device) from.cursor to.cursor new)
    pub moves : Moves from.cursor to.cursor (subs_due (described set) (device_at (described set) s.device).subs old.came + FOOT_LENGTH)
        (part_due (described set) (device_at (described set) s.device) new.came) result
    pub shaped : IsImageOf (described set) s.device new

  -- The most bytes of the section after its head, if its device's image is this one.
  abbrev pub section_due : Typed → ℕ
  section_due image = part_due (described set) (device_at (described set) s.device) image.came (Some (record { sub = None; version = image.version }))

  -- The image is of the section's device, and the bytes of the section may be taken.
  pub record CanReadSection (old : Typed) (stand : Stand) : Type 0 where
    pub image : IsOfDevice (described set) s.device old
    pub cursor : MayTake (section_due old) stand

  -- The section is taken into the image up to its end, or refused.
  pub record ReadsSection (later : Section) (old new : Typed) (from to : Input) (result : Result (Unit {0}) LoadFault) : Type 0 where
    pub reads : (names : List (List ℕ)) (state : State) → s.device < length state.images
        → GoesOn from.source to.source (section_due old + LONGEST_HEAD) (in_fields (described set) names state s None (untyped old))
        (λ _. after_part (described set) names state later (untyped new) None) from.cursor to.cursor result
    pub section : IsSame s later
    pub moves : Moves from.cursor to.cursor (section_due old) (λ _. 0) result
    pub shaped : IsImageOf (described set) s.device new

-- ---- what has been read so far

module _ (set : DescSet) where
  -- One image for each device, at its defaults.
  pub record AreDefaults (images : List Typed) : Type 0 where
    pub states : map untyped images ≡ map (default_image (described set)) (described set).devices
    pub shaped : AreShaped (described set) images
    pub of : AreImagesOf (described set) images

  -- Each image is that of its device at its defaults, with the kinds of its cells.
  pub record AreReset (images : List Typed) : Type 0 where
    pub states : map untyped images ≡ map (default_image (described set)) (described set).devices
    pub shaped : AreShaped (described set) images
    pub each : (k : ℕ) → k < length images → get_or images k no_image ≡ default_at (described set) k

  -- There is an image for each device, of its shape.
  abbrev pub HasImages : Staged → Type 0
  HasImages staged = AreShaped (described set) staged.images.items

  -- Nothing of a stream has been read.
  pub record IsRestarted (staged : Staged) : Type 0 where
    pub state : state_of (described set) staged Before ≡ at_start (described set)
    pub whole : IsOf (described set) staged

  -- The machine is one of the set's, if one is named, and what has been read so far is of the set.
  abbrev pub CanConfigureBy : Option ℕ → Staged → Type 0
  CanConfigureBy only staged = CanConfigure (described set) only staged

  -- The configuration of this name at an offset is accepted, or refused.
  pub record Configures (only : Option ℕ) (old new : Staged) (name : List ℕ) (at : ℕ) (result : Result (Option Between) LoadFault) : Type 0 where
    pub next : IfOk result (λ next. next ≡ Some AfterConfiguration)
    pub short : length name ≤ LONGEST_NAME
    pub refused : IfErr result IsRefused
    pub settles : (first after : Bool)
        → Settles (ask (described set) (accepted_of (described set) only) (state_of (described set) old (Free first after)) (Configuration name) (CONFIGURATION_FRONT + length name))
        at (λ next. state_of (described set) new (spot_at next)) (CONFIGURATION_FRONT + length name) result
    pub kept : new ≡ record old { machine = new.machine; tail = new.tail }
    pub whole : IsOf (described set) new

-- There is an image and a flag for device k.
pub record MayBegin (staged : Staged) (k : ℕ) : Type 0 where
  pub image : k < length staged.images.items
  pub device : k < length staged.came.items

-- The machine is one of these, if one is named, and they have numbers.
pub record CanFind (machines : List (List ℕ)) (only : Option ℕ) : Type 0 where
  pub few : length machines < 2 ^ 32
  pub machine : IsMachine machines only

-- The end mark at an offset is accepted, or refused.
pub record Ends (staged : Staged) (at : ℕ) (result : Result (Option Between) LoadFault) : Type 0 where
  pub next : IfOk result (λ next. next ≡ None)
  pub refused : IfErr result IsRefused
  pub settles : (set : Set) (names : List (List ℕ)) (first after : Bool)
      → Settles (ask set names (state_of set staged (Free first after)) End 1) at (λ next. state_of set staged (spot_at next)) 1 result

-- ---- a whole stream

-- The stream head is taken, and no byte is held.
pub record ReadsHead (from to : Input) (result : Result (Unit {0}) LoadFault) : Type 0 where
  pub reads : (set : Set) (names : List (List ℕ)) (state : State)
      → GoesOn from.source to.source 8 (reading_on (judge (by_state set names)) (record state { spot = Before }))
      (λ _. reading_on (judge (by_state set names)) (record state { spot = Free true false })) from.cursor to.cursor result
  pub held : OnOk result (to.cursor.held ≡ None)
  pub moves : Moves from.cursor to.cursor 8 (λ _. 0) result

module _ (set : DescSet) where
  -- The most bytes of the sections of devices that haven't come.
  abbrev pub due_in : Staged → ℕ
  due_in staged = sections_due (described set) (described set).devices staged.came.items

  -- What has been read so far is of the set, the cursor holds no byte, and the bytes of all other sections may be taken.
  pub record CanStage (staged : Staged) (stand : Stand) : Type 0 where
    pub whole : IsOf (described set) staged
    pub held : stand.held ≡ None
    pub place : stand.at + due_in staged ≤ 2 ^ 63 + LONGEST_HEAD

  -- The section after the head at an offset is taken, or refused.
  pub record Stages (head : Head) (at : ℕ) (old new : Staged) (from to : Input) (result : Result (Unit {0}) LoadFault) : Type 0 where
    pub reads : (names : List (List ℕ)) (first after : Bool)
        → GoesBehind from.source to.source (due_in old) (reading_on (judge (by_state (described set) names)))
        (ask (described set) names (state_of (described set) old (Free first after)) (HeadUnit head.id head.name.items head.instance head.version) (14 + length head.name.items))
        (λ _. reading_on (judge (by_state (described set) names)) (state_of (described set) new (Free false false))) at (14 + length head.name.items) from.cursor to.cursor result
    pub moves : Moves from.cursor to.cursor (due_in old) (λ _. LONGEST_HEAD + due_in new) result
    pub whole : IsOf (described set) new
    pub short : length head.name.items ≤ LONGEST_NAME

  module _ (only : Option ℕ) where
    -- What has been read so far is of the set, and the bytes that may follow `between` may be taken.
    pub record CanReadBetween (between : Between) (staged : Staged) (stand : Stand) : Type 0 where
      pub can : CanConfigure (described set) only staged
      pub place : stand.at + due_at set staged (Some between) ≤ 2 ^ 63

    -- A unit between sections is taken, and after a section head the whole section, or one is refused.
    pub record ReadsBetween (between : Between) (old new : Staged) (from to : Input) (result : Result (Option Between) LoadFault) : Type 0 where
      pub reads : GoesOn from.source to.source (due_at set old (Some between) + LONGEST_HEAD) (read_from set only old (spot_of between))
          (λ next. read_from set only new (spot_at next)) from.cursor to.cursor result
      pub moves : Moves from.cursor to.cursor (due_at set old (Some between)) (due_at set new) result
      pub next : IfOk result (IsPassed from.cursor to.cursor)
      pub whole : IsOf (described set) new

    -- What has been read so far is of the set, and the bytes after the stream head may be taken.
    pub record CanReadSections (staged : Staged) (stand : Stand) : Type 0 where
      pub can : CanConfigure (described set) only staged
      pub cursor : MayTake (due_at set staged (Some First)) stand

    -- All up to the end mark is taken, or a unit is refused.
    pub record ReadsSections (old new : Staged) (from to : Input) (result : Result (Unit {0}) LoadFault) : Type 0 where
      pub reads : GoesOn from.source to.source (due_at set old (Some First) + LONGEST_HEAD) (read_from set only old (spot_at (Some First)))
          (λ _. read_from set only new (spot_at None)) from.cursor to.cursor result
      pub held : OnOk result (to.cursor.held ≡ None)
      pub moves : Moves from.cursor to.cursor (due_at set old (Some First)) (λ _. 0) result
      pub whole : IsOf (described set) new

    -- The machine is one of the set's, if one is named, and there is an image for each device.
    pub record CanRead (staged : Staged) : Type 0 where
      pub machine : IsMachine (described set).machines only
      pub shaped : AreShaped (described set) staged.images.items

    -- The stream is read from its first byte on, or refused.
    pub record ReadsStream (old new : Intake) (staged : Staged) (result : Result ℕ LoadFault) : Type 0 where
      pub reads : GoesThrough old new (described set) (reading (by_state (described set) (accepted_of (described set) only)) (at_start (described set))) staged result
      pub shaped : AreShaped (described set) staged.images.items
      pub machine : IsMachine (described set).machines staged.machine
