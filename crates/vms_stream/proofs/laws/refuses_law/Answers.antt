use Rattle.vms_stream.proofs.Judging.{units_refuse}
use Rattle.vms_stream.proofs.laws.refuses_law.Goals as goal

pub returns : goal.returns
returns c = units_refuse
