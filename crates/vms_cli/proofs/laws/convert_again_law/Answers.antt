use Rattle.vms_cli.proofs.ConvertLaws.{convert_again}
use Rattle.vms_cli.proofs.laws.convert_again_law.Goals as goal

pub returns : goal.returns
returns c = convert_again
