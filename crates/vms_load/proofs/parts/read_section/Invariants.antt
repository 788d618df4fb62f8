use Rattle.vms_load.proofs.Facade.{◌+◌, ◌<◌, ◌≤◌, ℕ, List, Some, None, length, intake, State, described, device_at, reach, GoesSoFar, IsSame}
use Rattle.vms_load.proofs.Facade.{HoldsNone, OpensNext, part_due, in_fields, after_part, IsImageOf}
use Rattle.vms_image.specs.Typed.{state_of as untyped}
use Rattle.vms_load.proofs.parts.read_section.Given as goal

abbrev pub invariant-loop-next : goal.invariant-loop-next
invariant-loop-next g l =
    let set = described l.set in
    let d = device_at set l.section.device in
    let first = device_at set l.initial.section.device in
    record {
      same : IsSame l.initial.section l.section;
      held : HoldsNone l.cursor l.next;
      reads : (names : List (List ℕ)) (state : State) → l.initial.section.device < length state.images
          → GoesSoFar (intake g.S.Source l.initial.source) (intake g.S.Source l.source) (in_fields set names state l.initial.section None (untyped l.initial.image)) (after_part set names state l.section (untyped l.image) l.next) l.initial.cursor l.cursor;
      next_is : OpensNext d (untyped l.image) l.next;
      shaped : IsImageOf set l.section.device l.image;
      from : l.initial.cursor.at ≤ l.cursor.at;
      onward : reach l.initial.cursor ≤ reach l.cursor;
      place : reach l.cursor + part_due set d l.image.came l.next ≤ reach l.initial.cursor + part_due set first l.initial.image.came (Some (record { sub = None; version = l.initial.image.version }));
    }

abbrev pub decreases-loop-next : goal.decreases-loop-next
decreases-loop-next g l = part_due (described l.set) (device_at (described l.set) l.section.device) l.image.came l.next
