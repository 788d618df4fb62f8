use Rattle.vms_json.proofs.Facade.{refl, sym, ◌∙◌, arith, as_bool}
use Rattle.vms_json.proofs.LaidLaws.{none_in, says}
use Rattle.vms_json.proofs.node.Node.as_bool.Goals as goal

pub returns-in-Some : goal.returns-in-Some
returns-in-Some c = c.flag.ensures ∙ sym (says c.args.self.rows.now c.in-Some._inside.now c.in-Some.row.now (grind arith)).flag

pub returns-in-None : goal.returns-in-None
returns-in-None c = sym (none_in as_bool _ (grind arith) refl)
