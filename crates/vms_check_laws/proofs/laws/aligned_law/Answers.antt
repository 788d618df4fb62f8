use Rattle.vms_check_laws.proofs.Parts.{aligned_stands}
use Rattle.vms_check_laws.proofs.laws.aligned_law.Goals as goal

pub returns : goal.returns
returns c = aligned_stands
