use Rattle.vms_json.proofs.Facade.{arith, bytes_eq-Decides}
use Rattle.vms_json.proofs.node.Members.next_of.Goals as goal

pub returns-then-eq : goal.returns-then-eq
returns-then-eq c found = grind (arith, bytes_eq-Decides)
