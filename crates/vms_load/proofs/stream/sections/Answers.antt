use Rattle.vms_load.proofs.{stream.sections.Given.Over, stream.sections.Goals.After-read_between, Facade.due_at, Facade.read_from}
use Rattle.vms_load.proofs.Facade.{spot_at, LONGEST_HEAD, rules, Option, Some, None, ap, arith, ◌+◌, intake, Between, First, GoesOn}
use Rattle.vms_load.proofs.ReadLemmas.{err_is, goes_here, goes_on, goes_still}
use Rattle.vms_load.proofs.stream.sections.Goals as goal

pub loop-place-init : goal.loop-place-init
loop-place-init g c = search (rules, goes_here, g.met.S.Source.counted)

-- what has been read once the next unit was read, or refused
on : (g : Over) (c : After-read_between g) → GoesOn (intake g.S.Source c.args.source.now) (intake g.S.Source c.read_between.new.source) (due_at c.args.set.now c.args.staged.now (Some First) + LONGEST_HEAD)
    (read_from c.args.set.now c.args.only c.args.staged.now (spot_at (Some First))) (λ next. read_from c.args.set.now c.args.only c.read_between.new.staged (spot_at next)) c.args.cursor.now c.read_between.new.cursor c.read_between.result
on g c =
    let set = c.args.set.now in
    let loop = c.loop-place in
    let next = due_at set loop.staged (Some c.in-Some.between) in
    let due = ap (λ (o : Option Between). due_at set loop.staged o) c.in-Some.is in
    goes_on (next + LONGEST_HEAD) _ next (due_at set c.read_between.new.staged) (read_from set c.args.only c.args.staged.now (spot_at (Some First))) (read_from set c.args.only loop.staged (spot_at (Some c.in-Some.between)))
    (λ next. read_from set c.args.only c.read_between.new.staged (spot_at next)) c.args.cursor.now loop.cursor c.read_between.new.cursor c.read_between.result
    loop.invariant.from loop.invariant.onward c.read_between.ensures.moves (omega (arith, due)) (rw c.in-Some.is at loop.invariant.reads) c.read_between.ensures.reads

pub loop-place-preserved : goal.loop-place-preserved
loop-place-preserved g c =
    let moves = c.in_ok-place.ensures.moves in
    let due = ap (λ (o : Option Between). due_at c.args.set.now c.loop-place.staged o) c.in-Some.is in
    record {
      reads = rw c.in_ok-place.was at (on g (goal.at.loop-place-preserved g c).After-read_between);
      held = c.in_ok-place.ensures.next.held;
      whole = c.in_ok-place.ensures.whole;
      from = omega arith;
      onward = omega arith;
      due = omega arith;
    }

pub returns-in_err-place : goal.returns-in_err-place
returns-in_err-place g c =
    let end = c.read_between.new.cursor in
    rw (err_is _ _ c.from_residual.ensures.1) (record {
      reads = (goes_still (Option Between) (Unit {0}) _ (read_from c.args.set.now c.args.only c.args.staged.now (spot_at (Some First))) (λ next. read_from c.args.set.now c.args.only c.read_between.new.staged (spot_at next))
          (λ x. read_from c.args.set.now c.args.only c.read_between.new.staged (spot_at None)) c.args.cursor.now end end c.in_err-place.field-0.0 (rw c.in_err-place.was at (on g (goal.at.returns-in_err-place g c).After-read_between)));
      held = tt;
      moves = tt;
      whole = c.in_err-place.ensures.whole;
    })

pub loop-place-smaller : goal.loop-place-smaller
loop-place-smaller g c = search rules

pub returns : goal.returns
returns g c = record {
  reads = rw c.in_default.is at c.loop-place.invariant.reads;
  held = search rules;
  moves = search rules;
  whole = c.loop-place.invariant.whole;
}
