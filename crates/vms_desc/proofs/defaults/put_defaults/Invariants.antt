use Rattle.vms_desc.proofs.Facade.{◌≡◌, ◌<◌, ◌≤◌, ℕ, ℤ, List, pos, length, get_or, Kind}
use Rattle.vms_desc.proofs.defaults.put_defaults.Given as goal

pub record Put (numbers defaults : List ℤ) (kinds old : List Kind) (cell : ℕ) : Type 0 where
  pub long : length numbers ≡ length defaults
  pub same : kinds ≡ old
  pub default : (k : ℕ) → k < cell → get_or numbers k (pos 0) ≡ get_or defaults k (pos 0)
  pub zero : (k : ℕ) → cell ≤ k → get_or numbers k (pos 0) ≡ pos 0

abbrev pub invariant-loop-cell : goal.invariant-loop-cell
invariant-loop-cell l = Put l.cells.numbers l.defaults l.cells.kinds l.initial.cells.kinds l.cell
