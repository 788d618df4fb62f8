use Rattle.vms_rules.proofs.Facade.{◌≡◌, map, drop, device_of, set_of, devices_from}
use Rattle.vms_rules.proofs.devices.check_devices.Given as goal

abbrev pub invariant-loop-number : goal.invariant-loop-number
invariant-loop-number l =
    devices_from (set_of l.fn.parts) l.number (drop l.number (map device_of l.fn.parts.devices)) ≡ devices_from (set_of l.fn.parts) 0
    (map device_of l.fn.parts.devices)
