use Rattle.vms_io.proofs.Facade.{rules}
use Rattle.vms_io.proofs.{Gathering.handed, Gathering.still_told}
use Rattle.vms_io.proofs.standard.StdSink.hand_on.Goals as goal

pub loop-preserved : goal.loop-preserved
loop-preserved g c = search (rules, handed, still_told)
