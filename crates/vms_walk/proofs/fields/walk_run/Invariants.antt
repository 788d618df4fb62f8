use Rattle.vms_walk.proofs.Facade.{◌≡◌, ◌+◌, ◌-◌, ◌≤◌, Ok, length, run_of}
use Rattle.vms_walk.proofs.fields.walk_run.Given as goal

abbrev pub invariant-loop-cell : goal.invariant-loop-cell
invariant-loop-cell g l = record {
  way : g.W.Walker.does (run_of l.first (l.cell - l.first) l.kind) l.initial.walker (Ok tt) l.walker;
  long : length (g.W.Cells.numbers l.walker) ≡ length (g.W.Cells.numbers l.initial.walker);
  from : l.first ≤ l.cell;
  within : l.cell ≤ l.first + l.count;
}

abbrev pub decreases-loop-cell : goal.decreases-loop-cell
decreases-loop-cell g l = (l.first + l.count) - l.cell
