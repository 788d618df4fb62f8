use Rattle.dev_serial.proofs.SavedCells.{saved_comes_back}
use Rattle.dev_serial.proofs.laws.saved_law.Goals as goal

pub returns : goal.returns
returns c = saved_comes_back
