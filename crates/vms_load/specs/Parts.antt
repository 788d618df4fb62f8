-- The parts of a section, which are read into an image of its device.
use Rattle.std.specs.Prelude.{◌≡◌, ℕ, ◌+◌, ◌<◌, ◌≤◌, false, List, [], ◌∷◌, length, slice_set, Option, Some, None}
use Rattle.std.specs.List.{slice_get}
use Rattle.vms_spec.specs.Sets.{Desc, Sub, Device, Set}
use Rattle.vms_spec.specs.declared.Part.{Part}
use Rattle.vms_spec.specs.declared.Part.TheVariants as parts
use Rattle.vms_spec.specs.Images.{Image, sub_place, own_cells}
use Rattle.vms_spec.specs.SoFar.{part_slots}
use Rattle.vms_stream.specs.Judge.{judge}
use Rattle.vms_stream.specs.State.{State, Spot, Free, Inside, by_state}
use Rattle.vms_frames.specs.Stands.{Stand}
use Rattle.vms_frames.specs.Calls.{tail_of}
use Rattle.vms_bodies.specs.Whole.{reading_on}
use Rattle.vms_parts.specs.Devices.{device_at}
use Rattle.vms_image.specs.Typed.{Typed, IsImageOf, state_of as untyped}
use Rattle.vms_desc.specs.Parts.{sub_at}
use Rattle.vms_load.specs.Bounds.{desc_bytes, struct_bytes}
use Rattle.vms_load.specs.Reads.{Onward}
use Rattle.vms_load.specs.declared.parts.Section.{Section}
use Rattle.vms_load.specs.declared.parts.Open.{Open}
use Rattle.vms_marks.specs.declared.foot.TheConstants.{FOOT_LENGTH}
use Rattle.vms_marks.specs.declared.sub_head.TheConstants.{LONGEST_SUB_HEAD}

-- The description of the device's own fields, or of a subsection.
abbrev pub part_desc : Device → Option ℕ → Desc
part_desc d None = d.desc
part_desc d (Some j) = (sub_at d j).desc

-- The first cell of a part.
abbrev pub part_base : Set → Device → Option ℕ → ℕ
part_base set d None = 0
part_base set d (Some j) = sub_place set (own_cells set d) d.subs j

-- The device has this subsection, if one is named.
abbrev pub IsIn : Device → Option ℕ → Type 0
IsIn d None = Unit {0}
IsIn d (Some j) = j < length d.subs

-- The set has device k, and the image is one of that device.
pub record IsOfDevice (set : Set) (k : ℕ) (image : Typed) : Type 0 where
  pub device : k < length set.devices
  pub shaped : IsImageOf set k image

-- Nothing but the numbers of the image has changed.
pub record HasNewNumbers (old new : Typed) : Type 0 where
  pub kept : new ≡ record old { numbers = new.numbers }
  pub long : length new.numbers ≡ length old.numbers

-- The part of device k, as the code names it.
abbrev pub part_of : ℕ → Option ℕ → Part
part_of k None = parts.Device k
part_of k (Some j) = parts.Sub k j

-- `IsOpen d image part version`: the part has begun in the image, at this version.
abbrev pub IsOpen : Device → Image → Option ℕ → ℕ → Type 0
IsOpen d image None version = version ≡ image.version
IsOpen d image (Some j) version = (j < length d.subs) × (slice_get image.came j ≡ Some (Some version))

-- The part that comes next, if there is one, has begun.
abbrev pub OpensNext : Device → Image → Option Open → Type 0
OpensNext d image None = Unit {0}
OpensNext d image (Some part) = IsOpen d image part.sub part.version

-- ---- how many bytes there may be

-- The most bytes of a description's fields.
abbrev pub bytes_of : Set → Desc → ℕ
bytes_of set d = desc_bytes (struct_bytes set.structs (length set.structs)) d

-- The most bytes of the fields of a part.
abbrev pub bytes_of_part : Set → Device → Option ℕ → ℕ
bytes_of_part set d part = bytes_of set (part_desc d part)

-- The most bytes of the subsections that haven't come, with their heads.
abbrev pub subs_due : Set → List Sub → List (Option ℕ) → ℕ
subs_due set [] came = 0
subs_due set (s ∷ subs) [] = 0
subs_due set (s ∷ subs) (None ∷ came) = LONGEST_SUB_HEAD + bytes_of set s.desc + subs_due set subs came
subs_due set (s ∷ subs) (Some v ∷ came) = subs_due set subs came

-- The most bytes from the fields of this part to the end of the section, with its footer; 0 if the section
-- has ended.
abbrev pub part_due : Set → Device → List (Option ℕ) → Option Open → ℕ
part_due set d came None = 0
part_due set d came (Some part) = bytes_of_part set d part.sub + (subs_due set d.subs came + FOOT_LENGTH)

-- ---- how far the reading of a section is

-- The spot before the fields of the part that comes next, or after the section.
abbrev pub spot_in : Section → Option Open → Spot
spot_in section None = Free false false
spot_in section (Some part) = Inside section.device section.id part.sub 0

-- The state `state` with this image of the section's device.
abbrev pub state_in : State → Section → Image → Spot → State
state_in state section image spot = record {
  machine = state.machine;
  images = slice_set state.images section.device image;
  came = state.came;
  tail = tail_of section.tail;
  spot = spot;
}

-- The section is still of this device and id.
abbrev pub IsSame : Section → Section → Type 0
IsSame old new = (new.device ≡ old.device) × (new.id ≡ old.id)

-- The cursor hasn't gone back, and if a part comes next, it has advanced.
abbrev pub IsMoved : Stand → Stand → Option Open → Type 0
IsMoved from to None = from.at ≤ to.at
IsMoved from to (Some part) = from.at < to.at

-- A byte is held only after the section.
abbrev pub HoldsNone : Stand → Option Open → Type 0
HoldsNone stand None = Unit {0}
HoldsNone stand (Some part) = stand.held ≡ None

-- What is known of the part that comes next.
pub record IsNextPart (d : Device) (from to : Stand) (image : Typed) (next : Option Open) : Type 0 where
  pub moved : IsMoved from to next
  pub held : HoldsNone to next
  pub opens : OpensNext d (untyped image) next

module _ (set : Set) (names : List (List ℕ)) (state : State) (section : Section) where
  -- The reading from the fields of a part on.
  abbrev pub in_fields : Option ℕ → Image → Onward
  in_fields part image = reading_on (judge (by_state set names)) (state_in state section image (Inside section.device section.id part 0))

  -- The number of slots of a part.
  abbrev pub all_passed : Option ℕ → Image → ℕ
  all_passed part image = length (part_slots set (Some (device_at set section.device)) image part)

  -- The reading after the fields of a part, when all its slots are passed.
  abbrev pub after_fields : Option ℕ → Image → Onward
  after_fields part image = reading_on (judge (by_state set names)) (state_in state section image (Inside section.device section.id part (all_passed part image)))

  -- The reading from the next part on, or after the section.
  abbrev pub after_part : Image → Option Open → Onward
  after_part image next = reading_on (judge (by_state set names)) (state_in state section image (spot_in section next))
