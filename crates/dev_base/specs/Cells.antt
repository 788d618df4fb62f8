-- The cells of a device: numbers by their places, each of its kind.
use Rattle.std.specs.Prelude.{◌≡◌, ℕ, ℤ, pos, negsuc, ◌<◌, ◌==◌, Bool, true, false, List, length, map, slice_index_or}
use Rattle.std.specs.List.{range_with_len}
use Rattle.vms_kinds.specs.Codes.{InRange}
use Rattle.vms_kinds.specs.declared.Kind.{Kind}
use Rattle.vms_kinds.specs.declared.Kind.TheVariants.{U8}

-- `cell_at cells place` is the number of the cell at the place.
abbrev pub cell_at : List ℤ → ℕ → ℤ
cell_at cells place = slice_index_or cells place (pos 0)

-- `nat_of z` is the number itself if it isn't negative, else 0.
abbrev pub nat_of : ℤ → ℕ
nat_of (pos n) = n
nat_of (negsuc n) = 0

-- `number_at cells place` is the same number if it isn't negative, else 0.
abbrev pub number_at : List ℤ → ℕ → ℕ
number_at cells place = nat_of (cell_at cells place)

-- `firsts n f` is the list of the values of `f` at 0 to `n - 1`.
abbrev pub firsts : {A : Type 0} → ℕ → (ℕ → A) → List A
firsts n f = map f (range_with_len 0 n)

-- `flag_at cells place` is the truth value in the cell at the place: true is 1.
abbrev pub flag_at : List ℤ → ℕ → Bool
flag_at cells place = number_at cells place == 1

-- `flag_number flag` is the number of a truth value in a cell.
abbrev pub flag_number : Bool → ℕ
flag_number false = 0
flag_number true = 1

-- `kind_at kinds place` is the kind of the cell at the place.
abbrev pub kind_at : List Kind → ℕ → Kind
kind_at kinds place = slice_index_or kinds place U8

-- `AreInRange kinds cells`: each cell is in its kind's range.
abbrev pub AreInRange : List Kind → List ℤ → Type 0
AreInRange kinds cells = (place : ℕ) → place < length kinds → InRange (kind_at kinds place) (cell_at cells place)

-- `AreOf kinds cells`: the cells are the same number as the kinds, and each is in its kind's range.
pub record AreOf (kinds : List Kind) (cells : List ℤ) : Type 0 where
  pub count : length cells ≡ length kinds
  pub in_range : AreInRange kinds cells
