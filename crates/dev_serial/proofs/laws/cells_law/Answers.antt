use Rattle.dev_serial.proofs.SavedCells.{saved_are_cells}
use Rattle.dev_serial.proofs.laws.cells_law.Goals as goal

pub returns : goal.returns
returns c = saved_are_cells
