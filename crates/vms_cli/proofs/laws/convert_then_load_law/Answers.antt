use Rattle.vms_cli.proofs.ConvertLaws.{convert_then_load}
use Rattle.vms_cli.proofs.laws.convert_then_load_law.Goals as goal

pub returns : goal.returns
returns c = convert_then_load
