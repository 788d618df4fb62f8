use Rattle.vms_stream.proofs.Stated.{section_read_holds}
use Rattle.vms_stream.proofs.laws.section_read_law.Goals as goal

pub returns : goal.returns
returns c = section_read_holds
