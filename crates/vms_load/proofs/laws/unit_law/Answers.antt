use Rattle.vms_load.proofs.ExactLoads.{unit_holds}
use Rattle.vms_load.proofs.laws.unit_law.Goals as goal

pub returns : goal.returns
returns c = unit_holds
