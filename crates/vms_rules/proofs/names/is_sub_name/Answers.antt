use Rattle.vms_rules.proofs.Facade.{◌+◌, ◌-◌, length, length-drop, drop, ◌∙◌, arith, take_all, is_name}
use Rattle.vms_rules.proofs.NameLaws.{sub_name_parts}
use Rattle.vms_rules.proofs.names.is_sub_name.Goals as goal

pub returns-then-has_front : goal.returns-then-has_front
returns-then-has_front c =
    let tail = drop (length c.args.device.now + 1) c.args.name.now in
    let whole = take_all (length c.args.name.now - (length c.args.device.now + 1)) tail (omega (arith, length-drop (length c.args.device.now + 1) c.args.name.now)) in
    c.is_name.ensures ∙ (rw (whole, sub_name_parts c.args.device.now c.args.name.now (omega arith), ← c.has_front.ensures, c.if-has_front.true))
