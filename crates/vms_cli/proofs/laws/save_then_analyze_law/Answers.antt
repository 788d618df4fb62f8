use Rattle.vms_cli.proofs.RoundTrips.{save_then_analyze}
use Rattle.vms_cli.proofs.laws.save_then_analyze_law.Goals as goal

pub returns : goal.returns
returns c = save_then_analyze
