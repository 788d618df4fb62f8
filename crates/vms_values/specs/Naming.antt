-- The paths of the cells of a part, as text.
use Rattle.std.specs.Prelude.{◌≡◌, ◌<◌, ◌≤◌, ℕ, ◌/◌, ◌%◌, List, [], ◌++◌, get_or, pos, ◌*◌, true, length}
use Rattle.vms_kinds.specs.declared.Item.{Item}
use Rattle.vms_spec.specs.declared.TheConstants.{MOST_ITEMS}
use Rattle.vms_spec.specs.declared.Part.{Part}
use Rattle.vms_spec.specs.declared.Part.TheVariants as parts
use Rattle.vms_spec.specs.Sets.{Field, Set}
use Rattle.vms_spec.specs.Layout.{first, capacity_of, device_cells}
use Rattle.vms_desc.specs.Parts.{HasPart, desc_at}
use Rattle.vms_walk.specs.Steps.{size_in}
use Rattle.vms_elements.specs.Elements.{Shape, shape, shapes, item_elements, desc_elements}
use Rattle.vms_elements.specs.Parts.{names_of, cell_name}
use Rattle.vms_spec.specs.Places.{own_cell_count}
use Rattle.vms_desc.specs.Described.{device_at, described}
use Rattle.vms_values.specs.declared.name.Own.{Own}
use Rattle.vms_values.specs.Paths.{element_text}
use Rattle.vms_spec.specs.Rules.{uses_below}
use Rattle.vms_parts.specs.Views.{field_of}
use Rattle.vms_parts.specs.declared.types.Field.{Field as PartField}
use Rattle.vms_desc.specs.declared.set.DescSet.{DescSet}

-- The structures that a part may use: a structure those before it, the other parts all.
abbrev pub usable : Set → Part → List Shape
usable set (parts.Struct j) = first shape set.structs j
usable set part = shapes set

-- The paths of the cells of a part. They are the same in every state.
abbrev pub part_names : Set → Part → List (List ℕ)
part_names set part = names_of (desc_elements (usable set part) (desc_at set part) 0 [] 0)

-- The paths of the cells of one element, after its own path.
abbrev pub item_names : Set → Item → List (List ℕ)
item_names set item = names_of (item_elements (shapes set) item [] (pos 0) [] 0)

-- The path of a cell of a field.
abbrev pub field_name : Set → Field → ℕ → List ℕ
field_name set f cell =
    element_text f (cell / size_in set f.item) ++ get_or (item_names set f.item) (cell % size_in set f.item) []

-- The part that a cell of a device is in, and the cell's number in the part.
pub record IsInPart (set : Set) (device cell : ℕ) (own : Own) : Type 0 where
  pub part : HasPart set own.part
  pub small : own_cell_count set (desc_at set own.part) ≤ MOST_ITEMS
  pub inside : own.cell < own_cell_count set (desc_at set own.part)
  pub same : get_or (part_names set own.part) own.cell [] ≡ cell_name set (device_at set device) cell

module _ (set : DescSet) where
  -- Device i has cell k.
  pub record HasCell (i k : ℕ) : Type 0 where
    pub is_device : i < length (described set).devices
    pub is_cell : k < length (device_cells (described set) (device_at (described set) i))

  -- The part that cell k of device i is in, and the cell's number in the part.
  abbrev pub IsOwn : ℕ → ℕ → Own → Type 0
  IsOwn i k own = IsInPart (described set) i k own

  -- The set has the part, which has cell k.
  pub record HasName (p : Part) (k : ℕ) : Type 0 where
    pub part : HasPart (described set) p
    pub small : own_cell_count (described set) (desc_at (described set) p) ≤ MOST_ITEMS
    pub cell : k < own_cell_count (described set) (desc_at (described set) p)

  -- The path of cell k of a part.
  abbrev pub name_at : Part → ℕ → List ℕ
  name_at part k = get_or (part_names (described set) part) k []

  -- The field's structure is one of the set's, and the field has cell k.
  pub record HasElement (f : PartField) (k : ℕ) : Type 0 where
    pub reaches : uses_below (length (described set).structs) f.item ≡ true
    pub small : size_in (described set) f.item ≤ MOST_ITEMS
    pub cell : k < capacity_of f.count * size_in (described set) f.item

  -- The path of cell k of a field.
  abbrev pub element_name : PartField → ℕ → List ℕ
  element_name f k = field_name (described set) (field_of f) k
