use Rattle.vms_values.proofs.Facade.{rules}
use Rattle.vms_values.proofs.JudgeLemmas.{steps_true}
use Rattle.vms_values.proofs.judge.walk_rules.Goals as goal

pub returns-in-Ok : goal.returns-in-Ok
returns-in-Ok c = search (rules, steps_true)

pub returns-in-Err : goal.returns-in-Err
returns-in-Err c = search (rules, steps_true)
