use Rattle.vms_walk.proofs.{Walking.went_on, Walking.stopped_at, Walking.may_come, Spots.run_among}
use Rattle.vms_walk.proofs.Facade.{rules, ◌+◌, ◌-◌, ◌≤◌, ◌∙◌, arith, Ok}
use Rattle.vms_walk.proofs.fields.walk_run.Goals as goal

pub loop-cell-init : goal.loop-cell-init
loop-cell-init g c = search (arith)

pub loop-cell-preserved : goal.loop-cell-preserved
loop-cell-preserved g c =
    let laws = g.met.W.Walker.laws in
    let l = c.loop-cell in
    let d = c.run.new.self in
    let le : l.cell + c.min-some.result ≤ c.args.first + c.args.count = search rules in
    record {
      way = went_on laws
          (run_among c.args.first l.cell c.args.count c.args.kind c.args.walker.now l.walker l.invariant.from l.invariant.way c.min-some.result le)
          d (Ok tt) c.in_ok-run.ensures;
      long = (laws.keeps _ l.walker d (Ok tt) c.in_ok-run.ensures).long ∙ l.invariant.long;
      from = omega arith;
      within = le;
    }

pub run-requires-clause-may : goal.run-requires-clause-may
run-requires-clause-may g c =
    let l = c.loop-cell in
    let le : l.cell + c.min-some.result ≤ c.args.first + c.args.count = search rules in
    may_come g.met.W.Walker.laws
    (run_among c.args.first l.cell c.args.count c.args.kind c.args.walker.now l.walker l.invariant.from l.invariant.way c.min-some.result le)
    g.W.Walker.may c.requires.may

pub returns : goal.returns
returns g c = grind arith

pub returns-in_err-run : goal.returns-in_err-run
returns-in_err-run g c =
    let l = c.loop-cell in
    let le : l.cell + c.min-some.result ≤ c.args.first + c.args.count = search rules in
    stopped_at g.met.W.Walker.laws
    (run_among c.args.first l.cell c.args.count c.args.kind c.args.walker.now l.walker l.invariant.from l.invariant.way c.min-some.result le)
    c.run.new.self c.in_err-run.field-0.0 c.from_residual.result c.from_residual.ensures.1 c.in_err-run.ensures
