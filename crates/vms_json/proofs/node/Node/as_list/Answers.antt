use Rattle.vms_json.proofs.Facade.{refl, sym, ◌∙◌, arith, as_array}
use Rattle.vms_json.proofs.LaidLaws.{none_in, says}
use Rattle.vms_json.proofs.node.Node.as_list.Goals as goal
use Rattle.vms_json.proofs.node.Node.as_list.Goals.{in_default-via-in-Some+else-is_list, in_default-via-in_default}

pub returns-in-Some : goal.returns-in-Some
returns-in-Some c =
    sym ((says c.args.self.rows.now c.in-Some.rows.now c.in-Some.row.now (grind arith)).items ∙ rw (sym c.is_list.ensures ∙ c.if-is_list.true))

pub returns-in_default : goal.returns-in_default
returns-in_default c = elim c.in_default.branch [
  | in_default-via-in-Some+else-is_list w ↦
      sym ((says c.args.self.rows.now w.in-Some.rows.now w.in-Some.row.now (grind arith)).items ∙ rw (sym w.is_list.ensures ∙ w.if-is_list.false))
  | in_default-via-in_default w ↦ sym (none_in as_array c.args.self.rows.now (grind arith) refl)
]
