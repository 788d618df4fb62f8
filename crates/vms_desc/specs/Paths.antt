-- Paths, given the numbers of cells of the structures.
use Rattle.std.specs.Prelude.{◌≡◌, ℕ, ◌+◌, ◌*◌, ◌<◌, ◌≤◌, nat_lt, if◌then◌else◌, List, length, get_or, take, map, Option, Some, None}
use Rattle.std.specs.List.{slice_get}
use Rattle.vms_spec.specs.declared.TheConstants.{MOST_ITEMS}
use Rattle.vms_spec.specs.Layout.{no_desc, first, capacity_of, desc_cells}
use Rattle.vms_spec.specs.Places.{desc_of_sub}
use Rattle.vms_spec.specs.Sets as sets
use Rattle.vms_parts.specs.declared.sizes.Measure.TheVariants.{Cells}
use Rattle.vms_parts.specs.Sizes.{in_u32, size_of, fields_size, subs_size}
use Rattle.vms_parts.specs.Views.{desc_of}
use Rattle.vms_desc.specs.declared.path.Placed.{Placed}
use Rattle.vms_desc.specs.declared.path.Element.{Element}

-- the element of a step in a given field, if the description has it
abbrev pub element_in : List ℕ → sets.Desc → ℕ → (ℕ × ℕ) → Option sets.Field → Option Element
element_in sizes d base step None = None
element_in sizes d base step (Some f) =
    if nat_lt step.1 (capacity_of f.count)
    then Some (record { item = f.item; cell = base + fields_size Cells sizes (take step.0 d.fields) + step.1 * size_of Cells sizes f.item })
    else None

-- the element of a step, if the description has it
abbrev pub element_of : List ℕ → sets.Desc → ℕ → (ℕ × ℕ) → Option Element
element_of sizes d base step = element_in sizes d base step (slice_get d.fields step.0)

-- the description in which a path begins: the device's, or a subsection's
abbrev pub begin_desc : sets.Device → Option ℕ → Option sets.Desc
begin_desc d None = Some d.desc
begin_desc d (Some j) = desc_of_sub (slice_get d.subs j)

-- the first cell of that description
abbrev pub begin_base : List ℕ → sets.Device → Option ℕ → ℕ
begin_base sizes d None = 0
begin_base sizes d (Some j) = in_u32 (in_u32 (fields_size Cells sizes d.desc.fields) + in_u32 (subs_size Cells sizes (take j d.subs)))

-- the description in which a path begins, with its first cell
pub record Begins (sizes : List ℕ) (d : sets.Device) (part : Option ℕ) (p : Placed) : Type 0 where
  pub desc : begin_desc d part ≡ Some (desc_of p.desc.now)
  pub base : p.base ≡ begin_base sizes d part
  pub sizes_are : p.sizes.now ≡ sizes

-- the structure of a number, entered at a cell
pub record Enters (structs : List sets.Desc) (sizes : List ℕ) (number base : ℕ) (p : Placed) : Type 0 where
  pub known : number < length sizes
  pub desc : desc_of p.desc.now ≡ get_or structs number no_desc
  pub base_is : p.base ≡ base
  pub sizes_are : p.sizes.now ≡ take number sizes

-- the sizes are those of the first structures, and the description's cells are among those of a
-- device
pub record IsPlaced (set : sets.Set) (p : Placed) : Type 0 where
  pub known : length p.sizes.now ≤ length set.structs
  pub sized : p.sizes.now ≡ map (λ cells. in_u32 (length cells)) (first desc_cells set.structs (length p.sizes.now))
  pub room : p.base + length (desc_cells (first desc_cells set.structs (length p.sizes.now)) (desc_of p.desc.now)) ≤ MOST_ITEMS
