use Rattle.vms_selfdesc.proofs.Facade.{arith, drop_all, drop_more, no_field, described, desc_at, OnTrue_at}
use Rattle.vms_selfdesc.proofs.OfElements.{part_same}
use Rattle.vms_selfdesc.proofs.alike.are_fields_alike.Goals as goal

pub loop-field-init : goal.loop-field-init
loop-field-init c = λ rest. rest

pub loop-field-preserved : goal.loop-field-preserved
loop-field-preserved c =
    let more = drop_more (desc_at (described c.args.pair.now.set.now) c.args.part).fields c.loop-field.field no_field (omega arith) in
    λ rest. c.loop-field.invariant (rw more (OnTrue_at c.if-not-is_field_alike.false c.is_field_alike.ensures, rest))

pub returns : goal.returns
returns c =
    let set = described c.args.pair.now.set.now in
    let d = desc_at set c.args.part in
    let none = drop_all c.loop-field.field d.fields (omega arith) in
    λ sent. part_same c.args.pair.now.first.now.numbers c.args.pair.now.second.now.numbers set d c.args.base sent (c.loop-field.invariant (rw none tt))
