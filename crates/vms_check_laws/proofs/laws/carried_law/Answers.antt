use Rattle.vms_check_laws.proofs.GoesDevices.{carried_stands}
use Rattle.vms_check_laws.proofs.laws.carried_law.Goals as goal

pub returns : goal.returns
returns c = carried_stands
