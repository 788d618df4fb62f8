-- A table of partners: the cell of another description with which each cell is paired.
use Rattle.std.specs.Prelude.{◌≡◌, ℕ, ◌<◌, List, length, get_or, Option, Some, ℤ, pos}
use Rattle.std.specs.List.{slice_get}
use Rattle.vms_kinds.specs.Codes.{InRange}
use Rattle.vms_spec.specs.Layout.{Cell, no_cell}

-- One for each cell, of its kind; and no cell is the partner of two.
pub record ArePartners (cells others : List Cell) (partners : List (Option ℕ)) : Type 0 where
  pub long : length partners ≡ length cells
  pub kinds : (c k : ℕ) → slice_get partners c ≡ Some (Some k) → (k < length others) × ((get_or cells c no_cell).kind ≡ (get_or others k no_cell).kind)
  pub once : (b c k : ℕ) → slice_get partners b ≡ Some (Some k) → slice_get partners c ≡ Some (Some k) → b ≡ c

-- The same number of numbers as of cells, each of its cell's kind.
pub record AreOfKinds (cells : List Cell) (numbers : List ℤ) : Type 0 where
  pub long : length numbers ≡ length cells
  pub in_range : (c : ℕ) → c < length cells → InRange (get_or cells c no_cell).kind (get_or numbers c (pos 0))
