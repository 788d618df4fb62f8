use Rattle.vms_convert.proofs.HasBack.{has_back}
use Rattle.vms_convert.proofs.laws.comes_back_law.Goals as goal

pub returns : goal.returns
returns c = has_back
