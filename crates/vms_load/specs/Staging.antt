-- What has been read of a stream so far.
use Rattle.std.specs.Prelude.{◌≡◌, ℕ, ◌+◌, ◌*◌, ◌<◌, Bool, true, false, List, [], ◌∷◌, length, get_or, map, drop, slice_set, Option, Some, None, Result, Ok, Err}
use Rattle.std.specs.List.{slice_get}
use Rattle.vms_spec.specs.Sets.{Sub, Device, Set}
use Rattle.vms_spec.specs.Readings.{Reading, Accepted, Refused}
use Rattle.vms_spec.specs.Images.{Image, default_image}
use Rattle.vms_spec.specs.Streams.{is_one_of}
use Rattle.vms_stream.specs.Judge.{judge}
use Rattle.vms_stream.specs.State.{State, Spot, Free, Ended, by_state}
use Rattle.vms_bodies.specs.Whole.{reading_on}
use Rattle.vms_desc.specs.Described.{described}
use Rattle.vms_desc.specs.declared.set.DescSet.{DescSet}
use Rattle.vms_frames.specs.Stands.{Stand}
use Rattle.vms_frames.specs.Calls.{tail_of}
use Rattle.vms_frames.specs.declared.units.Between.{Between}
use Rattle.vms_frames.specs.declared.units.Between.TheVariants.{First, AfterConfiguration, Later}
use Rattle.vms_parts.specs.Devices.{device_at}
use Rattle.vms_image.specs.Typed.{Typed, state_of as untyped, default_at, IsImageOf}
use Rattle.vms_load.specs.Parts.{bytes_of, subs_due}
use Rattle.vms_load.specs.declared.fault.LoadFault.{LoadFault}
use Rattle.vms_load.specs.declared.fault.LoadFault.TheVariants as faults
use Rattle.vms_load.specs.declared.staged.Staged.{Staged}
use Rattle.vms_marks.specs.declared.configuration.TheConstants.{LONGEST_CONFIGURATION}
use Rattle.vms_marks.specs.declared.description.TheConstants.{LONGEST_DESCRIPTION}
use Rattle.vms_marks.specs.declared.foot.TheConstants.{FOOT_LENGTH}
use Rattle.vms_marks.specs.declared.head.TheConstants.{LONGEST_HEAD}
use Rattle.vms_marks.specs.declared.stream_head.TheConstants.{BESIDE_SECTIONS}
use Rattle.vms_marks.specs.declared.sub_head.TheConstants.{LONGEST_SUB_HEAD}

-- An image with nothing in it, for a number that no device has.
abbrev pub no_image : Typed
no_image = record { version = 0; came = []; numbers = []; kinds = [] }

-- There is one image for each device of a set, of its shape.
pub record AreShaped (set : Set) (images : List Typed) : Type 0 where
  pub all : length images ≡ length set.devices
  pub each : (k : ℕ) → k < length set.devices → IsImageOf set k (get_or images k no_image)

-- The machine is one of these, if one is named.
abbrev pub IsMachine : List (List ℕ) → Option ℕ → Type 0
IsMachine machines None = Unit {0}
IsMachine machines (Some machine) = machine < length machines

-- What has been read so far is of this set.
pub record IsOf (set : Set) (staged : Staged) : Type 0 where
  pub images : AreShaped set staged.images.items
  pub came : length staged.came.items ≡ length set.devices
  pub machine : IsMachine set.machines staged.machine
  -- the image of a device that hasn't come is at its defaults
  pub fresh : (k : ℕ) → slice_get staged.came.items k ≡ Some false → get_or staged.images.items k no_image ≡ default_at set k

-- The machine is one of the set's, if one is named, and what has been read so far is of the set.
pub record CanConfigure (set : Set) (only : Option ℕ) (staged : Staged) : Type 0 where
  pub machine : IsMachine set.machines only
  pub whole : IsOf set staged

-- The section of device k has begun at a version: its image has the version, and the device has come.
pub record HasBegun (old : Staged) (k version : ℕ) (new : Staged) : Type 0 where
  pub images : new.images.items ≡ slice_set old.images.items k (record (get_or old.images.items k no_image) { version = version })
  pub came : new.came.items ≡ slice_set old.came.items k true
  pub machine : new.machine ≡ old.machine
  pub tail : new.tail ≡ old.tail

-- The image of device k at a version, before its fields come.
abbrev pub image_at : Set → ℕ → ℕ → Image
image_at set k version = record (default_image set (device_at set k)) { version = version }

-- The same with the kinds of the cells.
abbrev pub begun_at : Set → ℕ → ℕ → Typed
begun_at set k version = record (default_at set k) { version = version }

-- ---- as the judge has it

-- The name of the machine with this number.
abbrev pub name_of : Set → Option ℕ → Option (List ℕ)
name_of set None = None
name_of set (Some machine) = Some (get_or set.machines machine [])

-- The judge's state for what has been read so far.
abbrev pub state_of : Set → Staged → Spot → State
state_of set staged spot = record { machine = name_of set staged.machine; images = map untyped staged.images.items; came = staged.came.items; tail = tail_of staged.tail; spot = spot }

-- Whether the place is directly after the stream head.
abbrev pub is_first : Between → Bool
is_first First = true
is_first _ = false

-- Whether the place is directly after a configuration.
abbrev pub is_configured : Between → Bool
is_configured AfterConfiguration = true
is_configured _ = false

-- The judge's spot between sections.
abbrev pub spot_of : Between → Spot
spot_of between = Free (is_first between) (is_configured between)

-- The same, or the spot after the end mark.
abbrev pub spot_at : Option Between → Spot
spot_at None = Ended
spot_at (Some between) = spot_of between

-- A byte is held only between sections.
abbrev pub HoldsAt : Stand → Option Between → Type 0
HoldsAt stand None = stand.held ≡ None
HoldsAt stand (Some between) = Unit {0}

-- The call has advanced the cursor, and a byte is held only between sections.
pub record IsPassed (from to : Stand) (place : Option Between) : Type 0 where
  pub moved : from.at < to.at
  pub held : HoldsAt to place

-- The accepted machines: all of these, or the only one with this number.
abbrev pub accepted : List (List ℕ) → Option ℕ → List (List ℕ)
accepted machines None = machines
accepted machines (Some machine) = get_or machines machine [] ∷ []

-- The accepted machines of a set.
abbrev pub accepted_of : Set → Option ℕ → List (List ℕ)
accepted_of set only = accepted set.machines only

-- How the rest of an input is read from this spot on, after what has been read so far.
abbrev pub read_from : DescSet → Option ℕ → Staged → Spot → ℕ → List ℕ → Option (Reading State)
read_from set only staged spot = reading_on (judge (by_state (described set) (accepted_of (described set) only))) (state_of (described set) staged spot)

-- The result is the number of an accepted machine of this name, or none if there isn't one.
abbrev pub IsAccepted : List (List ℕ) → Option ℕ → List ℕ → Option ℕ → Type 0
IsAccepted machines only name None = is_one_of (accepted machines only) name ≡ false
IsAccepted machines only name (Some machine) = (is_one_of (accepted machines only) name ≡ true) × (machine < length machines) × (get_or machines machine [] ≡ name)

-- ---- how many bytes there may be

-- The most bytes of a section: its head, its fields, all subsections with their heads, and its footer.
abbrev pub section_bytes : Set → Device → ℕ
section_bytes set d = LONGEST_HEAD + (bytes_of set d.desc + (subs_due set d.subs (map (λ s. None) d.subs) + FOOT_LENGTH))

-- The most bytes of the sections of devices that haven't come.
abbrev pub sections_due : Set → List Device → List Bool → ℕ
sections_due set [] came = 0
sections_due set (d ∷ devices) [] = 0
sections_due set (d ∷ devices) (true ∷ came) = sections_due set devices came
sections_due set (d ∷ devices) (false ∷ came) = section_bytes set d + sections_due set devices came

-- The most bytes of a configuration, if one may come.
abbrev pub configuration_due : Between → ℕ
configuration_due First = LONGEST_CONFIGURATION
configuration_due AfterConfiguration = 0
configuration_due Later = 0

-- The most bytes from a place between sections up to the end mark; 0 after it.
abbrev pub stream_due : Set → List Bool → Option Between → ℕ
stream_due set came None = 0
stream_due set came (Some between) = configuration_due between + (sections_due set set.devices came + 1)

-- The same, by what has been read so far.
abbrev pub due_at : DescSet → Staged → Option Between → ℕ
due_at set staged place = stream_due (described set) staged.came.items place

-- The most bytes of the fields of these subsections.
abbrev pub subs_bytes : Set → List Sub → ℕ
subs_bytes set [] = 0
subs_bytes set (s ∷ subs) = bytes_of set s.desc + subs_bytes set subs

-- The most bytes of the sections of these devices.
abbrev pub devices_most : Set → List Device → ℕ
devices_most set [] = 0
devices_most set (d ∷ devices) = (LONGEST_HEAD + FOOT_LENGTH + LONGEST_SUB_HEAD * length d.subs + (bytes_of set d.desc + subs_bytes set d.subs)) + devices_most set devices

-- The most bytes that a load takes: those outside sections, the sections, a head that is refused, and a
-- description section.
abbrev pub most_given : Set → ℕ
most_given set = BESIDE_SECTIONS + LONGEST_HEAD + LONGEST_DESCRIPTION + devices_most set set.devices

-- ---- a whole stream

-- A call reads an input as `reading` says. At Ok the machine, the images and the number of bytes taken are
-- those; after a refusal the bytes up to the end of the offending unit were taken.
abbrev pub ReadsAll : Set → Option (Reading State) → Staged → List ℕ → Option (List ℕ) → Result ℕ LoadFault → Type 0
ReadsAll set (Some (Accepted n end)) staged input left (Ok taken) =
    (n ≡ taken) × (end.machine ≡ name_of set staged.machine) × (end.images ≡ map untyped staged.images.items) × (left ≡ Some (drop taken input))
ReadsAll set (Some (Refused at section reason long)) staged input left (Err (faults.Refused r)) = (r ≡ record { section = section; at = at; reason = reason }) × (left ≡ Some (drop (at + long) input))
ReadsAll set reading staged input left (Err faults.ReadFault) = Unit {0}
ReadsAll set reading staged input left result = ⊥
