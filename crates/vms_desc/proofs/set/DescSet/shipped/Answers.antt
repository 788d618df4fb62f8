use Rattle.vms_desc.proofs.{Facade.ap, Facade.◌∙◌, Facade.is_well_formed, Clean.formed}
use Rattle.vms_desc.proofs.set.DescSet.shipped.Goals as goal

pub assemble-requires : goal.assemble-requires
assemble-requires c = ap is_well_formed c.in_ok-shipped_parts.ensures ∙ formed c.args.s
