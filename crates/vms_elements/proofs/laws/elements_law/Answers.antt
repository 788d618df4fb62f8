use Rattle.vms_elements.proofs.Walk.{elements_law as holds}
use Rattle.vms_elements.proofs.laws.elements_law.Goals as goal

pub returns : goal.returns
returns c = holds
