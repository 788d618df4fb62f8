use Rattle.vms_check.proofs.Facade.{◌≡◌, ◌-◌, drop, length, first_answer, described, device_at, compare_subs}
use Rattle.vms_check.proofs.sets.compare_subs.Given as goal

abbrev pub invariant-loop-number : goal.invariant-loop-number
invariant-loop-number l =
    let answer = compare_subs (described l.old) (described l.new) l.in_old l.in_new (device_at (described l.new) l.in_new) in
    first_answer answer l.number (drop l.number (device_at (described l.old) l.in_old).subs) ≡ first_answer answer 0 (device_at (described l.old) l.in_old).subs

abbrev pub decreases-loop-number : goal.decreases-loop-number
decreases-loop-number l = length (device_at (described l.old) l.in_old).subs - l.number
