use Rattle.vms_values.proofs.{Facade.◌≡◌, Facade.described, Facade.state_of, JudgeLemmas.judged_from}
use Rattle.vms_values.proofs.judge.judge_device.Given as goal

abbrev pub invariant-loop-sub : goal.invariant-loop-sub
invariant-loop-sub l =
    let set = described l.set in
    judged_from set l.device (state_of l.image) l.sub_lines l.sub ≡ judged_from set l.device (state_of l.image) l.sub_lines 0
