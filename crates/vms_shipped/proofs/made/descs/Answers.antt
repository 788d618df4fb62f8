use Rattle.vms_shipped.proofs.{Facade.desc_of, Facade.desc_in, RowLaws.one_more}
use Rattle.vms_shipped.proofs.made.descs.Goals as goal

pub loop-row-preserved : goal.loop-row-preserved
loop-row-preserved c = one_more desc_of desc_in _ _ _ _ _ _ c.loop-row-test.true c.in_ok-push.ensures.items c.in_ok-desc.ensures c.loop-row.invariant
