use Rattle.vms_values.proofs.Facade.{rules, sub_inside}
use Rattle.vms_values.proofs.judge.holds_sub.Goals as goal

pub hold_rules-requires : goal.hold_rules-requires
hold_rules-requires c = search (rules, sub_inside)
