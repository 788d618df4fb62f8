use Rattle.vms_analyze.proofs.Facade.{length, ◌-◌, ◌+◌, ◌≤◌, intake, longest_input, Takes}
use Rattle.vms_analyze.proofs.input.read_input.Given as goal

abbrev pub invariant-loop-piece : goal.invariant-loop-piece
invariant-loop-piece g l = record {
  few : length l.input.items ≤ longest_input + 1;
  takes : Takes (intake g.S.Source l.initial.source) (intake g.S.Source l.source) l.input.items;
}

abbrev pub decreases-loop-piece : goal.decreases-loop-piece
decreases-loop-piece g l = 100000001 - length l.input.items
