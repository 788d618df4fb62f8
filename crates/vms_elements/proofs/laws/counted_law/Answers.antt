use Rattle.vms_elements.proofs.PathsOf.{counted_holds as holds}
use Rattle.vms_elements.proofs.laws.counted_law.Goals as goal

pub returns : goal.returns
returns c = holds
