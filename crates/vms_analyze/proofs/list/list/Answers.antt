use Rattle.vms_analyze.proofs.Facade.{HasNone}
use Rattle.vms_analyze.proofs.list.list.Goals as goal

pub returns-in-None : goal.returns-in-None
returns-in-None c = HasNone c.requires c.in-None.ensures
