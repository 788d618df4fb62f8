use Rattle.vms_json.proofs.Facade.{refl, sym, ◌∙◌, arith, as_object}
use Rattle.vms_json.proofs.LaidLaws.{none_in, says}
use Rattle.vms_json.proofs.node.Node.as_members.Goals as goal
use Rattle.vms_json.proofs.node.Node.as_members.Goals.{in_default-via-in-Some+else-is_object, in_default-via-in_default}

pub returns-in-Some : goal.returns-in-Some
returns-in-Some c =
    sym ((says c.args.self.rows.now c.in-Some.rows.now c.in-Some.row.now (grind arith)).members ∙ rw (sym c.is_object.ensures ∙ c.if-is_object.true))

pub returns-in_default : goal.returns-in_default
returns-in_default c = elim c.in_default.branch [
  | in_default-via-in-Some+else-is_object w ↦
      sym ((says c.args.self.rows.now w.in-Some.rows.now w.in-Some.row.now (grind arith)).members ∙ rw (sym w.is_object.ensures ∙ w.if-is_object.false))
  | in_default-via-in_default w ↦ sym (none_in as_object c.args.self.rows.now (grind arith) refl)
]
