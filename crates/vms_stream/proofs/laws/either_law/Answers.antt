use Rattle.vms_stream.proofs.Stated.{either_holds}
use Rattle.vms_stream.proofs.laws.either_law.Goals as goal

pub returns : goal.returns
returns c = either_holds
