use Rattle.vmstate_c.proofs.CallLaws.{complete_holds}
use Rattle.vmstate_c.proofs.laws.complete_law.Goals as goal

pub returns : goal.returns
returns c = complete_holds
