use Rattle.vms_analyze.proofs.Facade.{rules, ◌-◌, arith, and-false}
use Rattle.vms_analyze.proofs.Walks.{name_there}
use Rattle.vms_analyze.proofs.walk.Walk.machine_name.Goals as goal

pub returns-then-are_name_bytes : goal.returns-then-are_name_bytes
returns-then-are_name_bytes c = search (rules, name_there)

pub returns-else-are_name_bytes : goal.returns-else-are_name_bytes
returns-else-are_name_bytes c = search (arith, name_there, and-false)
