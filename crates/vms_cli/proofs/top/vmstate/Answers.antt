use Rattle.vms_cli.proofs.{Facade.refl, Facade.intake, Facade.outlet, Facade.stock, Facade.serves_none, Facade.ending_of, RoundTrips.answers}
use Rattle.vms_cli.proofs.top.vmstate.Goals as goal

-- all is done: notes aren't touched
pub returns-in-Ok : goal.returns-in-Ok
returns-in-Ok g c =
    let run = c.run.ensures in
    let notes = outlet g.N.Sink c.args.notes.now in
    answers (intake g.I.Source c.args.input.now) (intake g.I.Source c.run.new.input) (outlet g.O.Sink c.args.out.now) (outlet g.O.Sink c.run.new.out)
    notes notes (stock g.H.Shelf c.args.shelf.now) (stock g.H.Shelf c.run.new.shelf)
    c.args.words.now (ending_of c.run.result) 0 run.runs run.unnamed (rw c.in-Ok.is (refl, refl)) (serves_none notes) (g.met.H.Shelf.octets c.args.shelf.now)

pub returns-in-Err : goal.returns-in-Err
returns-in-Err g c =
    let run = c.run.ensures in
    answers (intake g.I.Source c.args.input.now) (intake g.I.Source c.run.new.input) (outlet g.O.Sink c.args.out.now) (outlet g.O.Sink c.run.new.out)
    (outlet g.N.Sink c.args.notes.now) (outlet g.N.Sink c.tell.new.notes) (stock g.H.Shelf c.args.shelf.now) (stock g.H.Shelf c.run.new.shelf)
    c.args.words.now (ending_of c.run.result) c.tell.result run.runs run.unnamed
    (rw c.in-Err.is c.tell.ensures.tells) c.tell.ensures.serves (g.met.H.Shelf.octets c.args.shelf.now)
