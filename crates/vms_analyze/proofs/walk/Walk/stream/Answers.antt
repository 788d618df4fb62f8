use Rattle.vms_analyze.proofs.Walks.{start_stops, devices_stop, stream_walks}
use Rattle.vms_analyze.proofs.walk.Walk.stream.Goals as goal

pub returns-in-Err : goal.returns-in-Err
returns-in-Err c = start_stops c.args.devices.now _ _ _ c.in-Err.ensures

pub returns-in-Err-devices : goal.returns-in-Err-devices
returns-in-Err-devices c = devices_stop _ _ _ c.in_default.ensures c.in-Err-devices.ensures

pub returns : goal.returns
returns c = stream_walks _ _ _ c.in_default.ensures c.in_default-devices.ensures (rw c.byte.ensures at c.bytes.ensures)
