use Rattle.vms_elements.proofs.PathsOf.{cell_holds as holds}
use Rattle.vms_elements.proofs.laws.cell_law.Goals as goal

pub returns : goal.returns
returns c = holds
