use Rattle.vms_stream.proofs.Stated.{whole_holds as holds}
use Rattle.vms_stream.proofs.laws.whole_law.Goals as goal

pub returns : goal.returns
returns c = holds
