use Rattle.vms_convert.proofs.Facade.{◌≡◌, drop, map, list_any, device_of, wants}
use Rattle.vms_convert.proofs.recasting.want_arrays.Given as goal

abbrev pub invariant-loop-device : goal.invariant-loop-device
invariant-loop-device l = list_any wants (map device_of (drop l.device-index l.devices)) ≡ list_any wants (map device_of l.devices)
