-- The cell of a path, and the numbers of cells and devices.
use Rattle.std.specs.Prelude.{ℕ, ◌+◌, ◌*◌, nat_lt, if◌then◌else◌, List, [], ◌∷◌, length, Option, Some, None}
use Rattle.std.specs.List.{slice_get}
use Rattle.vms_kinds.specs.declared.Item.{Item}
use Rattle.vms_kinds.specs.declared.Item.TheVariants.{Num, Struct}
use Rattle.vms_spec.specs.Sets.{Field, Desc, Sub, Device, Set}
use Rattle.vms_spec.specs.Layout.{Cell, first, desc_cells, struct_cells, device_cells, place_of, item_size, capacity_of}
use Rattle.vms_spec.specs.Images.{sub_place, own_cells}

-- the number of cells of a device, or 0 if there is none
abbrev pub size_of_device : Set → Option Device → ℕ
size_of_device set None = 0
size_of_device set (Some d) = length (device_cells set d)

-- the number of cells of device k, those of its subsections included; 0 if there is no such device
abbrev pub cell_count : Set → ℕ → ℕ
cell_count set k = size_of_device set (slice_get set.devices k)

-- the number of cells of the fields of one description
abbrev pub own_cell_count : Set → Desc → ℕ
own_cell_count set d = length (desc_cells (struct_cells set) d)

-- ---- paths

-- A path is a list of steps. A step is the number of a field and the number of an element, which is
-- 0 for a single item.

-- the cell of the rest of a path at an item whose first cell is given: a number ends the path, and
-- `inside` continues it in a structure
abbrev pub item_at : (ℕ → ℕ → Option ℕ) → List (ℕ × ℕ) → Item → ℕ → Option ℕ
item_at inside [] (Num kind) cell = Some cell
item_at inside (step ∷ path) (Struct j) cell = inside j cell
item_at inside path item cell = None

-- the continuation `go` at element e of field i, with its item and first cell; none if there is no
-- such field or element
abbrev pub element_at : List (List Cell) → Desc → ℕ → ℕ → ℕ → Option Field → (Item → ℕ → Option ℕ) → Option ℕ
element_at structs d base i e None go = None
element_at structs d base i e (Some f) go =
    if nat_lt e (capacity_of f.count) then go f.item (place_of structs d.fields 0 base d.fields i + e * item_size structs f.item) else None

-- the cell of a path in a description whose cells begin at `base` and which may use the structures
-- of numbers below `below`
abbrev pub path_at : Set → List (ℕ × ℕ) → ℕ → Option Desc → ℕ → Option ℕ
path_at set [] below d base = None
path_at set (step ∷ path) below None base = None
path_at set (step ∷ path) below (Some d) base =
    element_at (first desc_cells set.structs below) d base step.0 step.1 (slice_get d.fields step.0)
    (item_at (λ j cell. if nat_lt j below then path_at set path j (slice_get set.structs j) cell else None) path)

-- the description of a subsection, if there is one
abbrev pub desc_of_sub : Option Sub → Option Desc
desc_of_sub None = None
desc_of_sub (Some s) = Some s.desc

-- the cell of a path in a device, if there is one
abbrev pub cell_in : Set → Option Device → Option ℕ → List (ℕ × ℕ) → Option ℕ
cell_in set None part path = None
cell_in set (Some d) None path = path_at set path (length set.structs) (Some d.desc) 0
cell_in set (Some d) (Some j) path = path_at set path (length set.structs) (desc_of_sub (slice_get d.subs j)) (sub_place set (own_cells set d) d.subs j)

-- `cell_at set k sub path` is the cell of a path in device k: among its own fields, or among those
-- of subsection `sub`. It is none exactly if there is no such cell.
abbrev pub cell_at : Set → ℕ → Option ℕ → List (ℕ × ℕ) → Option ℕ
cell_at set k part path = cell_in set (slice_get set.devices k) part path
