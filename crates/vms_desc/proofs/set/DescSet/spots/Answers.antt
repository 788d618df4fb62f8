use Rattle.vms_desc.proofs.Facade.{rules, are_apart}
use Rattle.vms_desc.proofs.set.DescSet.spots.Goals as goal

pub returns : goal.returns
returns c = search (rules, are_apart)
