use Rattle.vms_load.proofs.Facade.{arith, rules, is_same}
use Rattle.vms_load.proofs.ReadLemmas.{err_is}
use Rattle.vms_load.proofs.BodyLemmas.{are_others, reads_constant, reads_other, reads_no_constant}
use Rattle.vms_load.proofs.items.constant.Goals as goal

pub returns-in_err-found : goal.returns-in_err-found
returns-in_err-found g c = search (rules, err_is, reads_no_constant)

pub returns-then-found-value : goal.returns-then-found-value
returns-then-found-value g c = search (arith, are_others, reads_other)

pub returns : goal.returns
returns g c = search (arith, reads_constant, is_same)
