use Rattle.vms_cli.proofs.RoundTrips.{state_stands}
use Rattle.vms_cli.proofs.laws.state_law.Goals as goal

pub returns : goal.returns
returns c = state_stands
