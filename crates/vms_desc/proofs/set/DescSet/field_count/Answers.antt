use Rattle.vms_desc.proofs.{Facade.rules, Clean.few_fields, Clean.long_seen}
use Rattle.vms_desc.proofs.set.DescSet.field_count.Goals as goal

pub overflow_cast-result : goal.overflow_cast-result
overflow_cast-result c = search (rules, few_fields, long_seen)
