use Rattle.vms_cli.proofs.RoundTrips.{pack_then_analyze}
use Rattle.vms_cli.proofs.laws.pack_then_analyze_law.Goals as goal

pub returns : goal.returns
returns c = pack_then_analyze
