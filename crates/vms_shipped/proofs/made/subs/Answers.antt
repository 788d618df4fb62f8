use Rattle.vms_shipped.proofs.{Facade.sub_of, Facade.sub_in, RowLaws.one_more}
use Rattle.vms_shipped.proofs.made.subs.Goals as goal

pub loop-row-preserved : goal.loop-row-preserved
loop-row-preserved c = one_more sub_of sub_in _ _ _ _ _ _ c.loop-row-test.true c.in_ok-push.ensures.items c.in_ok-sub.ensures c.loop-row.invariant
