use Rattle.vms_check.proofs.Facade.{◌≡◌, drop, map, position, device_of, described, is_missing}
use Rattle.vms_check.proofs.sets.missing.Given as goal

abbrev pub invariant-loop-number : goal.invariant-loop-number
invariant-loop-number l =
    position (is_missing (described l.set)) l.number (map device_of (drop l.number l.devices)) ≡ position (is_missing (described l.set)) 0
    (map device_of l.devices)
