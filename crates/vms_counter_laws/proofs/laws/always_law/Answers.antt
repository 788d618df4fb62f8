use Rattle.vms_counter_laws.proofs.Stated.{always_holds}
use Rattle.vms_counter_laws.proofs.laws.always_law.Goals as goal

pub returns : goal.returns
returns c = always_holds
