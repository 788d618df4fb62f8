-- The parts of a device, as they are walked over, and their slots.
use Rattle.std.specs.Prelude.{◌≡◌, ℕ, ◌+◌, ◌<◌, ◌≤◌, Bool, true, false, List, [], length, get_or, slice_set, Some, None, Option, ℤ, pos}
use Rattle.vms_spec.specs.declared.Part.{Part}
use Rattle.vms_spec.specs.declared.Part.TheVariants as parts
use Rattle.vms_spec.specs.Sets.{Set}
use Rattle.vms_spec.specs.Layout.{Slot, no_cell, device_cells}
use Rattle.vms_spec.specs.Images.{Image, sub_slots}
use Rattle.vms_spec.specs.Places.{own_cell_count}
use Rattle.vms_desc.specs.Asks.{first_cell, needed_at}
use Rattle.vms_desc.specs.Described.{device_at}
use Rattle.vms_desc.specs.Parts.{desc_at, sub_at}
use Rattle.vms_image.specs.Typed.{Typed}
use Rattle.vms_walk.specs.declared.fields.PartAt.{PartAt}

-- A part at the version of its set.
abbrev pub part_of : Set → Part → PartAt
part_of set part = record { part = part; version = (desc_at set part).version; base = first_cell set part }

-- The cells from `first` to before `end` are at their defaults, and all others are unchanged.
pub record ArePut (set : Set) (i first end : ℕ) (before now : List ℤ) : Type 0 where
  pub long : length now ≡ length before
  pub inside : (c : ℕ) → first ≤ c → c < end → get_or now c (pos 0) ≡ (get_or (device_cells set (device_at set i)) c no_cell).default
  pub below : (c : ℕ) → c < first → get_or now c (pos 0) ≡ get_or before c (pos 0)
  pub above : (c : ℕ) → end ≤ c → get_or now c (pos 0) ≡ get_or before c (pos 0)

-- The cells of subsection j of device i are at their defaults, and all others are unchanged.
abbrev pub ArePutAt : Set → ℕ → ℕ → List ℤ → List ℤ → Type 0
ArePutAt set i j before now =
    let part = parts.Sub i j in
    ArePut set i (first_cell set part) (first_cell set part + own_cell_count set (desc_at set part)) before now

-- The slots of subsection j of device i, if it is present.
abbrev pub sub_slots_at : Set → ℕ → ℕ → Option ℕ → List ℤ → List Slot
sub_slots_at set i j None numbers = []
sub_slots_at set i j (Some v) numbers = sub_slots set (sub_at (device_at set i) j) v numbers (first_cell set (parts.Sub i j))

-- The slots of subsection j of device i in an image.
abbrev pub part_slots : Set → ℕ → ℕ → Image → List Slot
part_slots set i j image = sub_slots_at set i j (get_or image.came j None) image.numbers

-- Subsection j is settled: its cells are put to their defaults, unless it is needed.
abbrev pub SettlesBy : Bool → Set → ℕ → ℕ → Typed → Typed → Type 0
SettlesBy true set i j before now = now ≡ before
SettlesBy false set i j before now = ArePutAt set i j before.numbers now.numbers × (now ≡ record before { numbers = now.numbers })

-- The same, where the image's numbers say whether it is needed.
abbrev pub SettlesSub : Set → ℕ → ℕ → Typed → Typed → Type 0
SettlesSub set i j before now = SettlesBy (needed_at set i j before.numbers) set i j before now

-- Subsection j is marked as present at its version, if it is needed.
abbrev pub marked_by : Bool → Set → ℕ → ℕ → List (Option ℕ) → List (Option ℕ)
marked_by true set i j came = slice_set came j (Some (sub_at (device_at set i) j).desc.version)
marked_by false set i j came = came
