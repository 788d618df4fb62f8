use Rattle.vms_check.proofs.Facade.{◌≡◌, ◌-◌, drop, length, first_answer, described, device_mismatch}
use Rattle.vms_check.proofs.sets.compare_devices.Given as goal

abbrev pub invariant-loop-number : goal.invariant-loop-number
invariant-loop-number l =
    first_answer (device_mismatch (described l.old) (described l.new)) l.number (drop l.number (described l.old).devices) ≡ first_answer
    (device_mismatch (described l.old) (described l.new)) 0 (described l.old).devices

abbrev pub decreases-loop-number : goal.decreases-loop-number
decreases-loop-number l = length (described l.old).devices - l.number
