use Rattle.vms_json.proofs.Facade.{ap, refl, arith, of_json, converted, value_is}
use Rattle.vms_json.proofs.DueLaws.{too_deep, object_no_key, object_empty, object_opened}
use Rattle.vms_json.proofs.parse.begin_object.Goals as goal

pub returns-then-len-ge-DEEPEST-clause-err : goal.returns-then-len-ge-DEEPEST-clause-err
returns-then-len-ge-DEEPEST-clause-err c = λ said is why. too_deep refl is (omega arith) (ap (converted of_json) (value_is 0 _))

pub returns-in_err-next_key-clause-err : goal.returns-in_err-next_key-clause-err
returns-in_err-next_key-clause-err c = λ said is why. object_no_key is (omega arith) c.in_err-next_key.ensures.value

pub returns-in_ok-push-in-None-clause-ok : goal.returns-in_ok-push-in-None-clause-ok
returns-in_ok-push-in-None-clause-ok c = λ said is. object_empty is (omega arith) (grind arith) c.in_ok-push-in-None.ensures.items refl refl

pub returns-in_ok-begin_members-in-Some-clause-ok : goal.returns-in_ok-begin_members-in-Some-clause-ok
returns-in_ok-begin_members-in-Some-clause-ok c = λ said is.
    let b = c.in_ok-begin_members-in-Some.ensures in
    object_opened c.in-Some.name 0 is (omega arith) (grind arith) b.rows b.begun b.inside
