use Rattle.vms_cli.proofs.ConvertLaws.{convert_then_analyze}
use Rattle.vms_cli.proofs.laws.convert_then_analyze_law.Goals as goal

pub returns : goal.returns
returns c = convert_then_analyze
