use Rattle.vms_cli.proofs.{Facade.intake, Facade.stock, OutcomeLaws.asked_runs}
use Rattle.vms_cli.proofs.commands.run.Goals as goal

pub returns-in-Some-Analyze-clause-runs : goal.returns-in-Some-Analyze-clause-runs
returns-in-Some-Analyze-clause-runs g c =
    asked_runs _ _ (rw c.in-Some-Analyze.field-0-is at c.in-Some-Analyze.ensures) (c.analyze_input.ensures (stock g.H.Shelf c.args.shelf.now))

pub returns-in-Some-Pack-clause-runs : goal.returns-in-Some-Pack-clause-runs
returns-in-Some-Pack-clause-runs g c =
    asked_runs _ _ (rw c.in-Some-Pack.field-0-is at c.in-Some-Pack.ensures)
    (c.pack.ensures (intake g.I.Source c.args.input.now) (g.met.I.Source.counted c.args.input.now))

pub returns-in-Some-Check-clause-runs : goal.returns-in-Some-Check-clause-runs
returns-in-Some-Check-clause-runs g c =
    asked_runs _ _ (rw c.in-Some-Check.field-0-is at c.in-Some-Check.ensures)
    (c.check.ensures (intake g.I.Source c.args.input.now) (g.met.I.Source.counted c.args.input.now))

pub returns-in-Some-Counter-clause-runs : goal.returns-in-Some-Counter-clause-runs
returns-in-Some-Counter-clause-runs g c =
    asked_runs _ _ (rw c.in-Some-Counter.field-0-is at c.in-Some-Counter.ensures)
    (c.counter.ensures (intake g.I.Source c.args.input.now) (g.met.I.Source.counted c.args.input.now))

pub returns-in-Some-Save-clause-runs : goal.returns-in-Some-Save-clause-runs
returns-in-Some-Save-clause-runs g c =
    asked_runs _ _ (rw c.in-Some-Save.field-0-is at c.in-Some-Save.ensures)
    (c.save.ensures (intake g.I.Source c.args.input.now) (g.met.I.Source.counted c.args.input.now))

pub returns-in-Some-Play-clause-runs : goal.returns-in-Some-Play-clause-runs
returns-in-Some-Play-clause-runs g c =
    asked_runs _ _ (rw c.in-Some-Play.field-0-is at c.in-Some-Play.ensures)
    (c.play.ensures (intake g.I.Source c.args.input.now) (g.met.I.Source.counted c.args.input.now))

pub returns-in-Some-Drill-clause-runs : goal.returns-in-Some-Drill-clause-runs
returns-in-Some-Drill-clause-runs g c =
    asked_runs _ _ (rw c.in-Some-Drill.field-0-is at c.in-Some-Drill.ensures)
    (c.drill.ensures (stock g.H.Shelf c.args.shelf.now) (intake g.I.Source c.args.input.now) (g.met.I.Source.counted c.args.input.now))
