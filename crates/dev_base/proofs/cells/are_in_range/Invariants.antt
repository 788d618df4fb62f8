use Rattle.std.proofs.Common.{ℕ, ◌<◌}
use Rattle.vms_kinds.specs.Codes.{InRange}
use Rattle.dev_base.specs.Cells.{cell_at, kind_at}
use Rattle.dev_base.proofs.cells.are_in_range.Given as goal

abbrev pub invariant-loop-place : goal.invariant-loop-place
invariant-loop-place l = (place : ℕ) → place < l.place → InRange (kind_at l.kinds place) (cell_at l.cells place)
