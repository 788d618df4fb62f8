use Rattle.vms_io.proofs.{Facade.refl, Gathering.dropped, Gathering.told_empty}
use Rattle.vms_io.proofs.standard.StdSink.discard.Goals as goal

pub returns-clause-written : goal.returns-clause-written
returns-clause-written g c = told_empty _ c.args.self.now.gathered 0 0 refl

pub returns-clause-front : goal.returns-clause-front
returns-clause-front g c = dropped _ c.args.self.now.gathered _
