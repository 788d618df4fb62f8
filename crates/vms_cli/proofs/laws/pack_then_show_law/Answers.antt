use Rattle.vms_cli.proofs.RoundTrips.{pack_then_show}
use Rattle.vms_cli.proofs.laws.pack_then_show_law.Goals as goal

pub returns : goal.returns
returns c = pack_then_show
