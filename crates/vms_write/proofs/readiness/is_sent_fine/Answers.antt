use Rattle.vms_write.proofs.{Facade.rules, Facade.described, Facade.sub_inside, Sections.formed_defaults, Sections.formed_long}
use Rattle.vms_write.proofs.readiness.is_sent_fine.Goals as goal

pub is_part_fine-requires : goal.is_part_fine-requires
is_part_fine-requires c = search (rules, sub_inside, formed_long)

pub returns-then-version-desc : goal.returns-then-version-desc
returns-then-version-desc c =
    search (rules, (rw (formed_defaults (described c.args.set.now) c.args.device c.defaults.result.now c.defaults.ensures.defaults) at c.is_part_fine.ensures))
