use Rattle.vms_desc.proofs.{Facade.rules, FormLaws.same_held}
use Rattle.vms_desc.proofs.defaults.numbers_of.Goals as goal

pub new-requires : goal.new-requires
new-requires c = rw c.deref.ensures.value c.requires.few

pub put_defaults-requires : goal.put_defaults-requires
put_defaults-requires c = search rules

pub returns : goal.returns
returns c = search (rules, same_held)
