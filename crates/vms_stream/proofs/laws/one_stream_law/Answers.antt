use Rattle.vms_stream.proofs.Stated.{one_stream_holds}
use Rattle.vms_stream.proofs.laws.one_stream_law.Goals as goal

pub returns : goal.returns
returns c = one_stream_holds
