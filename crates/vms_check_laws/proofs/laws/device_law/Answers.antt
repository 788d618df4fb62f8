use Rattle.vms_check_laws.proofs.Streaming.{device_stands}
use Rattle.vms_check_laws.proofs.laws.device_law.Goals as goal

pub returns : goal.returns
returns c = device_stands
