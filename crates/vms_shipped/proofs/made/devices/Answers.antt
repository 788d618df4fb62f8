use Rattle.vms_shipped.proofs.{Facade.device_of, Facade.device_in, RowLaws.one_more}
use Rattle.vms_shipped.proofs.made.devices.Goals as goal

pub loop-row-preserved : goal.loop-row-preserved
loop-row-preserved c = one_more device_of device_in _ _ _ _ _ _ c.loop-row-test.true c.in_ok-push.ensures.items c.in_ok-device.ensures c.loop-row.invariant
