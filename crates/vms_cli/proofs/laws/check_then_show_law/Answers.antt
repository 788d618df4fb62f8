use Rattle.vms_cli.proofs.RoundTrips.{check_then_show}
use Rattle.vms_cli.proofs.laws.check_then_show_law.Goals as goal

pub returns : goal.returns
returns c = check_then_show
