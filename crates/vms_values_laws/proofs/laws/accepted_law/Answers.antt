use Rattle.vms_values_laws.proofs.Stated.{accepted_holds}
use Rattle.vms_values_laws.proofs.laws.accepted_law.Goals as goal

pub returns : goal.returns
returns c = accepted_holds
