-- The parts of a set, and their descriptions.
use Rattle.std.specs.Prelude.{ℕ, ◌<◌, ◌≤◌, ◌&&◌, Bool, false, List, length, get_or, Option, Some, None, ℤ}
use Rattle.std.specs.List.{slice_get}
use Rattle.vms_spec.specs.declared.Part.{Part}
use Rattle.vms_spec.specs.declared.Part.TheVariants as parts
use Rattle.vms_spec.specs.Places.{own_cell_count}
use Rattle.vms_spec.specs.Rules.{is_num, is_one, names_well, nobody}
use Rattle.vms_spec.specs.Sets.{Formula, AtLeast, Field, Desc, Sub, Device, Set}
use Rattle.vms_spec.specs.Layout.{no_desc, numbers_of, no_parent, struct_cells}
use Rattle.vms_parts.specs.Devices.{device_at}

-- the set has this part: a structure, a device or a subsection
abbrev pub HasPart : Set → Part → Type 0
HasPart set parts.Set = ⊥
HasPart set (parts.Struct j) = j < length set.structs
HasPart set (parts.Device i) = i < length set.devices
HasPart set (parts.Sub i j) = (i < length set.devices) × (j < length (device_at set i).subs)

-- subsection j of a device
abbrev pub sub_at : Device → ℕ → Sub
sub_at d j = get_or d.subs j (record { desc = no_desc; needed = AtLeast 0 })

-- the description of a part
abbrev pub desc_at : Set → Part → Desc
desc_at set parts.Set = no_desc
desc_at set (parts.Struct j) = get_or set.structs j no_desc
desc_at set (parts.Device i) = (device_at set i).desc
desc_at set (parts.Sub i j) = (sub_at (device_at set i) j).desc

-- the numbers that a test of a part may name of its device: only a subsection's test may
abbrev pub parent_of : Set → Part → List ℤ → ℕ → ℕ
parent_of set (parts.Sub i j) numbers = numbers_of (struct_cells set) (device_at set i).desc numbers 0
parent_of set part numbers = no_parent

-- ---- the tests of a part

-- a field that is a single number
abbrev pub is_number : Option Field → Bool
is_number None = false
is_number (Some f) = is_num f.item && is_one f.count

-- field k is a single number
abbrev pub is_number_in : List Field → ℕ → Bool
is_number_in fields k = is_number (slice_get fields k)

-- field k of the device is a single number, if the part is a subsection
abbrev pub is_number_of_parent : Set → Part → ℕ → Bool
is_number_of_parent set (parts.Sub i j) = is_number_in (device_at set i).desc.fields
is_number_of_parent set part = nobody

-- a test that names only single numbers of the part, and for a subsection of its device
abbrev pub is_placed : Set → Part → Formula → Bool
is_placed set part t = names_well (is_number_in (desc_at set part).fields) (is_number_of_parent set part) t

-- the cells of a subsection's device are among n cells
abbrev pub HasParentCells : Set → Part → ℕ → Type 0
HasParentCells set (parts.Sub i j) n = own_cell_count set (device_at set i).desc ≤ n
HasParentCells set part n = Unit {0}
