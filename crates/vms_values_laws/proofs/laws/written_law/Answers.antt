use Rattle.vms_values_laws.proofs.Stated.{written_only}
use Rattle.vms_values_laws.proofs.laws.written_law.Goals as goal

pub returns : goal.returns
returns c = written_only
