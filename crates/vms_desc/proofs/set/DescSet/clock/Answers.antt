use Rattle.vms_desc.proofs.{Facade.ap, Facade.◌∙◌, Facade.is_well_formed, Clean.clock_formed}
use Rattle.vms_desc.proofs.set.DescSet.clock.Goals as goal

pub assemble-requires : goal.assemble-requires
assemble-requires c = ap is_well_formed c.in_ok-clock_parts.ensures ∙ clock_formed c.args.c
