-- The cells of a device's subsections.
use Rattle.std.specs.Prelude.{◌≡◌, ℕ, ◌+◌, ◌<◌, ◌≤◌, length, Some}
use Rattle.std.specs.List.{slice_get}
use Rattle.vms_spec.specs.Sets.{Sub, Device, Set}
use Rattle.vms_spec.specs.Layout.{desc_cells, struct_cells}
use Rattle.vms_spec.specs.Images.{own_cells, sub_place}

-- Cell c is one of subsection j.
pub record IsCellOf (to : Set) (d : Device) (j : ℕ) (s : Sub) (c : ℕ) : Type 0 where
  pub is : slice_get d.subs j ≡ Some s
  pub low : sub_place to (own_cells to d) d.subs j ≤ c
  pub high : c < sub_place to (own_cells to d) d.subs j + length (desc_cells (struct_cells to) s.desc)
