-- What a walk over a set needs to know about it.
use Rattle.std.specs.Prelude.{ℕ, ◌+◌, ◌≤◌, Bool, List, [], length, get_or, ℤ}
use Rattle.vms_spec.specs.declared.Part.{Part}
use Rattle.vms_spec.specs.declared.Part.TheVariants as parts
use Rattle.vms_spec.specs.Sets.{Field, Set}
use Rattle.vms_spec.specs.Layout.{no_field, numbers_of, place_of, struct_cells}
use Rattle.vms_spec.specs.Images.{own_cells, sub_place}
use Rattle.vms_spec.specs.Places.{own_cell_count}
use Rattle.vms_spec.specs.Streams.{is_needed}
use Rattle.vms_parts.specs.Devices.{device_at}
use Rattle.vms_desc.specs.Parts.{desc_at, sub_at}

-- the first cell of a part among the cells of its device; a structure begins wherever it is used
abbrev pub first_cell : Set → Part → ℕ
first_cell set (parts.Sub i j) = sub_place set (own_cells set (device_at set i)) (device_at set i).subs j
first_cell set part = 0

-- field k of a part
abbrev pub field_at : Set → Part → ℕ → Field
field_at set part k = get_or (desc_at set part).fields k no_field

-- the first cell of field k of a part, or of one element of a structure, whose cells begin at a place
abbrev pub field_start : Set → Part → ℕ → ℕ → ℕ
field_start set part base k = place_of (struct_cells set) (desc_at set part).fields 0 base (desc_at set part).fields k

-- the numbers of the fields of a part, or of one element of a structure, whose cells begin at a
-- place
abbrev pub own_numbers : Set → Part → List ℤ → ℕ → ℕ → ℕ
own_numbers set part numbers base = numbers_of (struct_cells set) (desc_at set part) numbers base

-- the cells of the part are among the numbers
abbrev pub HasCells : Set → Part → List ℤ → ℕ → Type 0
HasCells set part numbers base = base + own_cell_count set (desc_at set part) ≤ length numbers

-- subsection j of device i is needed, if the device's cells have these numbers
abbrev pub needed_at : Set → ℕ → ℕ → List ℤ → Bool
needed_at set i j numbers = is_needed set (device_at set i) (record { version = 0; came = []; numbers = numbers }) (sub_at (device_at set i) j) j
