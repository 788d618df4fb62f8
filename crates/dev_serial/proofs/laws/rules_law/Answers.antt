use Rattle.dev_serial.proofs.RestoredLaws.{sound_meets_rules}
use Rattle.dev_serial.proofs.laws.rules_law.Goals as goal

pub returns : goal.returns
returns c = sound_meets_rules
