use Rattle.vms_walk.proofs.Facade.{[], ◌-◌, refl, ◌∙◌, arith, Ok}
use Rattle.vms_walk.proofs.{Walking.went_on, Walking.stopped_at, Walking.may_come, Spots.run_among}
use Rattle.vms_walk.proofs.step.Walker.run.Goals as goal

pub loop-cell-init : goal.loop-cell-init
loop-cell-init g c = search (arith)

pub loop-cell-preserved : goal.loop-cell-preserved
loop-cell-preserved g c =
    let laws = g.met.Self.Walker.laws in
    let l = c.loop-cell in
    let d = c.step.new.self in
    record {
      way = went_on laws (run_among c.args.first l.cell c.args.count c.args.kind c.args.self.now l.self l.auto.cell l.invariant.way 1 (omega arith))
          d (Ok tt) c.in_ok-step.ensures;
      long = (laws.keeps _ l.self d (Ok tt) c.in_ok-step.ensures).long ∙ l.invariant.long;
      within = omega arith;
    }

pub step-requires-clause-inside : goal.step-requires-clause-inside
step-requires-clause-inside g c = omega arith

pub step-requires-clause-may : goal.step-requires-clause-may
step-requires-clause-may g c =
    let laws = g.met.Self.Walker.laws in
    let l = c.loop-cell in
    may_come laws (run_among c.args.first l.cell c.args.count c.args.kind c.args.self.now l.self l.auto.cell l.invariant.way 1 (omega arith))
    g.Self.Walker.may c.requires.may [] [] [] _ l.self (laws.none l.self) refl

pub returns : goal.returns
returns g c = grind arith

pub returns-in_err-step : goal.returns-in_err-step
returns-in_err-step g c =
    let l = c.loop-cell in
    stopped_at g.met.Self.Walker.laws
    (run_among c.args.first l.cell c.args.count c.args.kind c.args.self.now l.self l.auto.cell l.invariant.way 1 (omega arith))
    c.step.new.self c.in_err-step.field-0.0 c.from_residual.result c.from_residual.ensures.1 c.in_err-step.ensures
