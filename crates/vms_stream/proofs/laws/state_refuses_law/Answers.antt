use Rattle.vms_stream.proofs.Judging.{state_refuses}
use Rattle.vms_stream.proofs.laws.state_refuses_law.Goals as goal

pub returns : goal.returns
returns c = λ set names. state_refuses set names
