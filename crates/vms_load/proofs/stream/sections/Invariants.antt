use Rattle.vms_load.proofs.Facade.{◌+◌, ◌-◌, ◌≤◌, Some, intake, judge, by_state, reading_on, described, First, reach, GoesSoFar, IsOf, HoldsAt}
use Rattle.vms_load.proofs.Facade.{accepted_of, state_of, spot_at, stream_due}
use Rattle.vms_load.proofs.stream.sections.Given as goal

abbrev pub invariant-loop-place : goal.invariant-loop-place
invariant-loop-place g l =
    let set = described l.set in
    let go = reading_on (judge (by_state set (accepted_of set l.only))) in
    record {
      reads : GoesSoFar (intake g.S.Source l.initial.source) (intake g.S.Source l.source) (go (state_of set l.initial.staged (spot_at (Some First)))) (go (state_of set l.staged (spot_at l.place))) l.initial.cursor l.cursor;
      held : HoldsAt l.cursor l.place;
      whole : IsOf set l.staged;
      from : l.initial.cursor.at ≤ l.cursor.at;
      onward : reach l.initial.cursor ≤ reach l.cursor;
      due : reach l.cursor + stream_due set l.staged.came.items l.place ≤ reach l.initial.cursor + stream_due set l.initial.staged.came.items (Some First);
    }

abbrev pub decreases-loop-place : goal.decreases-loop-place
decreases-loop-place g l = reach l.initial.cursor + stream_due (described l.set) l.initial.staged.came.items (Some First) - l.cursor.at
