use Rattle.vms_desc.proofs.{Facade.drop_is, Facade.drop_all, FormLaws.left_all, FormLaws.left_goes, FormLaws.left_none}
use Rattle.vms_desc.proofs.forms.put_subs.Goals as goal

pub loop-sub-init : goal.loop-sub-init
loop-sub-init c = left_all c.args.forms.now _

pub loop-sub-preserved : goal.loop-sub-preserved
loop-sub-preserved c =
    let next = drop_is c.args.subs.now c.loop-sub.sub-index c.sub-item.result c.loop-sub-test.true c.sub-item.is in
    left_goes _ _ _ _ (rw next) (rw c.as_slice.ensures at c.in_ok-put_fields.ensures) c.loop-sub.invariant

pub returns : goal.returns
returns c = left_none (rw (drop_all c.loop-sub.sub-index c.args.subs.now c.loop-sub-test.false)) c.loop-sub.invariant
