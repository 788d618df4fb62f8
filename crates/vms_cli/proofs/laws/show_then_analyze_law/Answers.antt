use Rattle.vms_cli.proofs.RoundTrips.{show_then_analyze}
use Rattle.vms_cli.proofs.laws.show_then_analyze_law.Goals as goal

pub returns : goal.returns
returns c = show_then_analyze
