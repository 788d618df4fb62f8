use Rattle.vms_stream.proofs.Stated.{never_both_holds}
use Rattle.vms_stream.proofs.laws.never_both_law.Goals as goal

pub returns : goal.returns
returns c = never_both_holds
