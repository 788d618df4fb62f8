use Rattle.vmstate_c.proofs.CallLaws.{complete_stored_holds}
use Rattle.vmstate_c.proofs.laws.complete_stored_law.Goals as goal

pub returns : goal.returns
returns c = complete_stored_holds
