use Rattle.vms_stream_laws.proofs.Onward.{refused_hold}
use Rattle.vms_stream_laws.proofs.laws.refused_law.Goals as goal

pub returns : goal.returns
returns c = refused_hold
