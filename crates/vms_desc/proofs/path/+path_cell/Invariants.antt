use Rattle.vms_desc.proofs.Facade.{length}
use Rattle.vms_desc.proofs.path.+path_cell.Given as goal

abbrev pub decreases-path_cell : goal.decreases-path_cell
decreases-path_cell l = length l.path.now
