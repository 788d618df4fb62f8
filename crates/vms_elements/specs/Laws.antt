-- The list of elements compared with the definitions of cells, slots and texts, and which paths cells have.
use Rattle.std.specs.Prelude.{◌≡◌, ℕ, ◌<◌, true, List, length, map, get_or, Option, Some, None, ℤ}
use Rattle.std.specs.List.{slice_get}
use Rattle.vms_spec.specs.Sets.{Desc, Device, Set}
use Rattle.vms_spec.specs.Layout.{Cell, no_cell, desc_cells, struct_cells, device_cells, desc_slots, meanings}
use Rattle.vms_spec.specs.Images.{Image, image_slots}
use Rattle.vms_spec.specs.Places.{desc_of_sub, path_at, cell_at}
use Rattle.vms_spec.specs.Values.{values_text}
use Rattle.vms_elements.specs.Elements.{Element, Number}
use Rattle.vms_elements.specs.Parts.{elements_in, device_elements, cells_of, slots_of, numbers_in, CountsUp, field_named, IsFieldOf}
use Rattle.vms_elements.specs.Lines.{text_of, values_lines}
use Rattle.vms_elements.specs.Entries.{entries, entry_line}

-- The numbers among the elements are the cells, one each and in order, and the elements in the bytes are the
-- slots.
pub record IsWhole (set : Set) (d : Desc) (v : ℕ) (numbers : List ℤ) (place : ℕ) : Type 0 where
  pub cells : cells_of (elements_in set d v numbers place) ≡ desc_cells (struct_cells set) d
  pub in_order : CountsUp place (numbers_in (elements_in set d v numbers place))
  pub slots : slots_of (elements_in set d v numbers place) ≡ desc_slots (meanings set.structs (length set.structs)) d v numbers place

-- This holds of every description.
abbrev pub ElementsLaw : Type 0
ElementsLaw = (set : Set) (d : Desc) (v : ℕ) (numbers : List ℤ) (place : ℕ) → IsWhole set d v numbers place

-- The same for a whole device and an image that has an entry for each subsection.
pub record IsWholeDevice (set : Set) (d : Device) (image : Image) : Type 0 where
  pub cells : cells_of (device_elements set d image) ≡ device_cells set d
  pub in_order : CountsUp 0 (numbers_in (device_elements set d image))
  pub slots : slots_of (device_elements set d image) ≡ image_slots set d image

-- This holds of every device.
abbrev pub DeviceLaw : Type 0
DeviceLaw = (set : Set) (d : Device) (image : Image) → length image.came ≡ length d.subs → IsWholeDevice set d image

-- What is in the bytes is counted: it has its line in the values text.
abbrev pub CountedLaw : Type 0
CountedLaw = (set : Set) (d : Desc) (v : ℕ) (numbers : List ℤ) (place i : ℕ) (x : Element) → slice_get (elements_in set d v numbers place) i ≡ Some x
    → x.present ≡ true → x.counted ≡ true

-- The lines are the values text.
abbrev pub TextLaw : Type 0
TextLaw = (set : Set) (machine : Option (List ℕ)) (images : List Image) → text_of (values_lines set machine images) ≡ values_text set machine images

-- The lines of the entries are those of the values text.
abbrev pub EntryLaw : Type 0
EntryLaw = (set : Set) (machine : Option (List ℕ)) (images : List Image) → map entry_line (entries set machine images) ≡ values_lines set machine images

-- ---- paths

-- The path of a number among the elements of a description is that of its cell.
abbrev pub CellLaw : Type 0
CellLaw = (set : Set) (d : Desc) (v : ℕ) (numbers : List ℤ) (place i : ℕ) (x : Element) (cell : Cell) → slice_get (elements_in set d v numbers place) i ≡ Some x
    → x.what ≡ Number cell → path_at set x.path (length set.structs) (Some d) place ≡ Some x.cell

-- Two paths are the same.
pub record ArePaths (part part' : Option ℕ) (path path' : List (ℕ × ℕ)) : Type 0 where
  pub same_part : part ≡ part'
  pub same_path : path ≡ path'

-- Distinct paths of a device have distinct cells.
abbrev pub DistinctLaw : Type 0
DistinctLaw = (set : Set) (k : ℕ) (part part' : Option ℕ) (path path' : List (ℕ × ℕ)) (c : ℕ)
    → cell_at set k part path ≡ Some c → cell_at set k part' path' ≡ Some c → ArePaths part part' path path'

-- The description that a part of a device names: its own, or a subsection's.
abbrev pub part_desc : Device → Option ℕ → Option Desc
part_desc d None = Some d.desc
part_desc d (Some j) = desc_of_sub (slice_get d.subs j)

-- A path of a cell, which names a field of the cell's kind and default.
pub record HasPath (set : Set) (k : ℕ) (d : Device) (c : ℕ) : Type 0 where
  pub part : Option ℕ
  pub path : List (ℕ × ℕ)
  pub has : cell_at set k part path ≡ Some c
  pub names : IsFieldOf (get_or (device_cells set d) c no_cell) (field_named set path (part_desc d part))

-- Each cell of a device has a path.
abbrev pub PathLaw : Type 0
PathLaw = (set : Set) (k : ℕ) (d : Device) (c : ℕ) → slice_get set.devices k ≡ Some d → c < length (device_cells set d) → HasPath set k d c
