use Rattle.vms_check_laws.proofs.Parts.{position_stands}
use Rattle.vms_check_laws.proofs.laws.position_law.Goals as goal

pub returns : goal.returns
returns c = position_stands
