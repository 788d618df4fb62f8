use Rattle.vms_desc.proofs.{Facade.rules, AskLaws.field_found}
use Rattle.vms_desc.proofs.set.DescSet.is_there.Goals as goal

pub is_present-requires : goal.is_present-requires
is_present-requires g c = search (rules, field_found)

pub returns : goal.returns
returns g c = search (rules, field_found)
