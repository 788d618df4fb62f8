use Rattle.vms_check_laws.proofs.PairDevices.{device_paired}
use Rattle.vms_check_laws.proofs.laws.partners_law.Goals as goal

pub returns : goal.returns
returns c = device_paired
