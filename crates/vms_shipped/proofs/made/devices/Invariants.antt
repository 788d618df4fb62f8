use Rattle.vms_shipped.proofs.Facade.{◌≡◌, map, take, device_of, device_in}
use Rattle.vms_shipped.proofs.made.devices.Given as goal

abbrev pub invariant-loop-row : goal.invariant-loop-row
invariant-loop-row l = map device_of l.devices.items ≡ map device_in (take l.row-index l.rows)
