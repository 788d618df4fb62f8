use Rattle.vms_values_laws.proofs.Stated.{shown_holds}
use Rattle.vms_values_laws.proofs.laws.shown_law.Goals as goal

pub returns : goal.returns
returns c = shown_holds
