use Rattle.vms_json.proofs.Facade.{refl, sym, ◌∙◌, arith, as_number}
use Rattle.vms_json.proofs.LaidLaws.{none_in, says}
use Rattle.vms_json.proofs.node.Node.as_number.Goals as goal

pub returns-in-Some : goal.returns-in-Some
returns-in-Some c = c.number.ensures ∙ sym (says c.args.self.rows.now c.in-Some._inside.now c.in-Some.row.now (grind arith)).number

pub returns-in-None : goal.returns-in-None
returns-in-None c = sym (none_in as_number _ (grind arith) refl)
