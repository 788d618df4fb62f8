use Rattle.vms_stream.proofs.Stated.{local_holds}
use Rattle.vms_stream.proofs.laws.local_law.Goals as goal

pub returns : goal.returns
returns c = local_holds
