use Rattle.dev_serial.proofs.RestoredLaws.{restored_is_sound}
use Rattle.dev_serial.proofs.laws.restored_law.Goals as goal

pub returns : goal.returns
returns c = restored_is_sound
