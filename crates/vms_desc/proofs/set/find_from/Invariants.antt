use Rattle.vms_desc.proofs.Facade.{◌≡◌, drop, map, find_device, device_of}
use Rattle.vms_desc.proofs.set.find_from.Given as goal

abbrev pub invariant-loop-i : goal.invariant-loop-i
invariant-loop-i l = find_device l.i (map device_of (drop l.i l.devices)) l.name l.instance ≡ find_device 0 (map device_of l.devices) l.name l.instance
