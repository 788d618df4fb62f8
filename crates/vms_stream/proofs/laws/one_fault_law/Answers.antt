use Rattle.vms_stream.proofs.Stated.{one_fault_holds}
use Rattle.vms_stream.proofs.laws.one_fault_law.Goals as goal

pub returns : goal.returns
returns c = one_fault_holds
