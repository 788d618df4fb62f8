use Rattle.vms_stream.proofs.Stated.{section_found_holds}
use Rattle.vms_stream.proofs.laws.section_found_law.Goals as goal

pub returns : goal.returns
returns c = section_found_holds
