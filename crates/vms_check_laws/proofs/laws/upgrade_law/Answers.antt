use Rattle.vms_check_laws.proofs.Streaming.{upgrade_stands}
use Rattle.vms_check_laws.proofs.laws.upgrade_law.Goals as goal

pub returns : goal.returns
returns c = upgrade_stands
