-- The cells of slots.
use Rattle.std.specs.Prelude.{◌≡◌, ℕ, ◌<◌, List, [], ◌∷◌, length, get_or}
use Rattle.vms_kinds.specs.declared.Kind.{Kind}
use Rattle.vms_spec.specs.Layout.{Slot, Number, Cell, no_cell}

-- Cell c is one of `all`, of this kind and with these capacities.
pub record IsCell (all : List Cell) (c : ℕ) (k : Kind) (caps : List ℕ) : Type 0 where
  pub within : c < length all
  pub kind : (get_or all c no_cell).kind ≡ k
  pub capacities : (get_or all c no_cell).capacities ≡ caps

-- Each number of the slots is a cell of this list.
abbrev pub AreCells : List Cell → List Slot → Type 0
AreCells all [] = Unit {0}
AreCells all (Number c kind caps ∷ slots) = IsCell all c kind caps × AreCells all slots
AreCells all (slot ∷ slots) = AreCells all slots
