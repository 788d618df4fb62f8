use Rattle.vms_cli.proofs.RoundTrips.{always_named}
use Rattle.vms_cli.proofs.laws.always_named_law.Goals as goal

pub returns : goal.returns
returns c = always_named
