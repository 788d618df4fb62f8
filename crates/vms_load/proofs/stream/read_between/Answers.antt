use Rattle.vms_load.proofs.{stream.read_between.Given.Over, stream.read_between.Goals.After-between}
use Rattle.vms_load.proofs.Facade.{read_from, state_of, spot_of, spot_at, is_first, is_configured, rules, Option, Some, None, Result, Ok, Err, IfErr, false}
use Rattle.vms_load.proofs.Facade.{◌≡◌, ◌≤◌, ◌+◌, ap, arith, reads_as, reads_both, judge, ask, Free, by_state, reading_on, described, held_long}
use Rattle.vms_load.proofs.Facade.{Between, Step, Staged, LoadFault, intake, unit_of_step, GoesOn, IsRefused, Settles, LONGEST_HEAD, accepted_of, due_at}
use Rattle.vms_load.proofs.ReadLemmas.{err_is, spent_by, goes_judged, goes_still, same_course}
use Rattle.vms_load.proofs.StreamReads.{turn_fault, turn_settled, turn_section}
use Rattle.vms_frames.specs.{Calls.step_long, Reads.BetweenReads}
use Rattle.vms_frames.specs.declared.units.Step.TheVariants as steps
use Rattle.vms_load.proofs.stream.read_between.Goals as goal

-- a unit that is judged where it ends: the reading goes on after it, or it is invalid
judged : (g : Over) (c : After-between g) (step : Step) (new : Staged) (result : Result (Option Between) LoadFault) → IfErr result IsRefused
    → c.between.new.self.at ≡ c.args.cursor.now.at + step_long step → c.between.new.self.held ≡ None → step_long step ≤ due_at c.args.set.now c.args.staged.now (Some c.args.between) + LONGEST_HEAD
    → Settles (ask (described c.args.set.now) (accepted_of (described c.args.set.now) c.args.only) (state_of (described c.args.set.now) c.args.staged.now (spot_of c.args.between)) (unit_of_step step) (step_long step)) c.at-at.result
    (λ next. state_of (described c.args.set.now) new (spot_at next)) (step_long step) result
    → BetweenReads (intake g.S.Source c.args.source.now) (intake g.S.Source c.between.new.source) c.args.between c.args.cursor.now (Ok step)
    → GoesOn (intake g.S.Source c.args.source.now) (intake g.S.Source c.between.new.source) (due_at c.args.set.now c.args.staged.now (Some c.args.between) + LONGEST_HEAD) (read_from c.args.set.now c.args.only c.args.staged.now (spot_of c.args.between))
    (λ next. read_from c.args.set.now c.args.only new (spot_at next)) c.args.cursor.now c.between.new.self result
judged g c step new result refused place held short settled reads =
    let set = described c.args.set.now in
    let from = c.args.cursor.now in
    let to = c.between.new.self in
    let now = ap held_long held in
    goes_judged result refused (reads_as (λ n l. spent_by from to _ result n (omega arith) (omega arith))
    (λ rest left h. turn_settled set (accepted_of set c.args.only) c.args.staged.now c.args.between {Y = Option Between} from to (Some rest) (Some left) step (λ next. state_of set new (spot_at next)) result h place held
    (rw c.at-at.ensures at settled)) reads)

pub returns-in-Ok-Configuration : goal.returns-in-Ok-Configuration
returns-in-Ok-Configuration g c =
    let came = rw c.in-Ok-Configuration.field-0-is at c.in-Ok-Configuration.ensures in
    let now = ap held_long c.in-Ok-Configuration.ensures.held in
    record {
      reads = judged g (goal.at.returns-in-Ok-Configuration g c).After-between (steps.Configuration c.in-Ok-Configuration.name) c.configure.new.staged c.configure.result c.configure.ensures.refused came.place c.in-Ok-Configuration.ensures.held
          (omega arith) (c.configure.ensures.settles (is_first c.args.between) (is_configured c.args.between)) came.reads;
      moves = search rules;
      next = search rules;
      whole = c.configure.ensures.whole;
    }

pub returns-in-Ok-End : goal.returns-in-Ok-End
returns-in-Ok-End g c =
    let came = rw c.in-Ok-End.field-0-is at c.in-Ok-End.ensures in
    let now = ap held_long c.in-Ok-End.ensures.held in
    record {
      reads = judged g (goal.at.returns-in-Ok-End g c).After-between steps.End c.args.staged.now c.take_end_mark.result c.take_end_mark.ensures.refused came.place c.in-Ok-End.ensures.held (omega arith)
          (c.take_end_mark.ensures.settles (described c.args.set.now) (accepted_of (described c.args.set.now) c.args.only) (is_first c.args.between) (is_configured c.args.between)) came.reads;
      moves = search rules;
      next = search rules;
      whole = c.requires.can.whole;
    }

pub returns-in_err-stage_section-in-Ok-Section : goal.returns-in_err-stage_section-in-Ok-Section
returns-in_err-stage_section-in-Ok-Section g c =
    let set = described c.args.set.now in
    let names = accepted_of set c.args.only in
    let at = c.args.between in
    let go = reading_on (judge (by_state set names)) in
    let from = c.args.cursor.now in
    let end = c.stage_section.new.cursor in
    let head = c.in-Ok-Section.head in
    let came = rw c.in-Ok-Section.field-0-is at c.in-Ok-Section.ensures in
    let held = c.in-Ok-Section.ensures.held in
    let e = c.in_err-stage_section-in-Ok-Section.field-0.0 in
    rw (err_is _ _ c.from_residual.ensures.1) (record {
      reads = (goes_still (Unit {0}) (Option Between) _ (go (state_of set c.args.staged.now (spot_of at))) (λ x. go (state_of set c.stage_section.new.staged (Free false false))) (λ next. go (state_of set c.stage_section.new.staged (spot_at next))) from end end e
          (reads_both (λ k n l m. omega arith)
          (λ all rest left h r. turn_section set names c.args.staged.now at from c.between.new.self end (Some all) (Some rest) (Some left) head c.at-at.result (state_of set c.stage_section.new.staged (Free false false)) (Err e)
          c.requires.can.whole.came h came.place held c.at-at.ensures r) came.reads (c.in_err-stage_section-in-Ok-Section.ensures.reads names (is_first at) (is_configured at))));
      moves = tt;
      next = tt;
      whole = c.in_err-stage_section-in-Ok-Section.ensures.whole;
    })

pub returns-in_ok-stage_section-in-Ok-Section : goal.returns-in_ok-stage_section-in-Ok-Section
returns-in_ok-stage_section-in-Ok-Section g c =
    let set = described c.args.set.now in
    let names = accepted_of set c.args.only in
    let at = c.args.between in
    let head = c.in-Ok-Section.head in
    let came = rw c.in-Ok-Section.field-0-is at c.in-Ok-Section.ensures in
    let held = c.in-Ok-Section.ensures.held in
    let now = ap held_long held in
    let moves = c.in_ok-stage_section-in-Ok-Section.ensures.moves in
    record {
      reads = reads_both (λ k n l m. omega (arith, l, m, came.place, now, moves.1))
          (λ all rest left h r. turn_section set names c.args.staged.now at c.args.cursor.now c.between.new.self c.stage_section.new.cursor (Some all) (Some rest) (Some left) head c.at-at.result (state_of set c.stage_section.new.staged (Free false false))
          (Ok c.in_ok-stage_section-in-Ok-Section.field-0) c.requires.can.whole.came h came.place held c.at-at.ensures r) came.reads (c.in_ok-stage_section-in-Ok-Section.ensures.reads names (is_first at) (is_configured at));
      moves = search rules;
      next = search rules;
      whole = c.in_ok-stage_section-in-Ok-Section.ensures.whole;
    }

pub returns-in-Err : goal.returns-in-Err
returns-in-Err g c =
    let set = described c.args.set.now in
    let names = accepted_of set c.args.only in
    record {
      reads = rw (c.concerning.ensures, ← same_course None c.in-Err.fault)
          (reads_as (λ n l. omega arith) (λ rest left h. turn_fault set names c.args.staged.now c.args.between {Y = Option Between} c.args.cursor.now c.between.new.self (Some rest) (Some left)
          (λ next. reading_on (judge (by_state set names)) (state_of set c.args.staged.now (spot_at next))) c.in-Err.fault h) c.in-Err.ensures.reads);
      moves = tt;
      next = tt;
      whole = c.requires.can.whole;
    }
