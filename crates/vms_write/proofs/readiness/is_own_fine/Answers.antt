use Rattle.vms_write.proofs.{Facade.rules, Facade.described, Facade.own_inside_device, Sections.formed_defaults, Sections.formed_long}
use Rattle.vms_write.proofs.readiness.is_own_fine.Goals as goal

pub is_part_fine-requires : goal.is_part_fine-requires
is_part_fine-requires c = search (rules, own_inside_device, formed_long)

pub returns-then-version-device : goal.returns-then-version-device
returns-then-version-device c =
    search (rules, (rw (formed_defaults (described c.args.set.now) c.args.device c.defaults.result.now c.defaults.ensures.defaults) at c.is_part_fine.ensures))
