use Rattle.vms_walk.proofs.Facade.{◌≡◌, ◌+◌, ◌-◌, ◌≤◌, Ok, length, run_of}
use Rattle.vms_walk.proofs.step.Walker.run.Given as goal

abbrev pub invariant-loop-cell : goal.invariant-loop-cell
invariant-loop-cell g l = record {
  way : g.Self.Walker.does (run_of l.first (l.cell - l.first) l.kind) l.initial.self (Ok tt) l.self;
  long : length (g.Self.Cells.numbers l.self) ≡ length (g.Self.Cells.numbers l.initial.self);
  within : l.cell ≤ l.first + l.count;
}
