use Rattle.vms_json.proofs.Facade.{true, false, refl, sym, ◌∙◌, or-false, or-true, no_members, put, view}
use Rattle.vms_json.proofs.LaidLaws.{one_put}
use Rattle.vms_json.proofs.keys.have_either.Goals as goal

pub loop-name-init : goal.loop-name-init
loop-name-init c = (no_members, refl, refl)

pub loop-name-preserved-then-is_either : goal.loop-name-preserved-then-is_either
loop-name-preserved-then-is_either c =
    let l = c.loop-name.invariant in
    let one = one_put c.args.key.now c.args.other.now c.in-Some.name.now (view c.in-Some._value) l.0 true (sym c.if-is_either.true ∙ c.is_either.ensures) in
    (put c.in-Some.name.now (view c.in-Some._value) l.0, l.1 ∙ c.in-Some.ensures.value l.0, sym (one ∙ or-true _))

pub loop-name-preserved : goal.loop-name-preserved
loop-name-preserved c =
    let l = c.loop-name.invariant in
    let one = one_put c.args.key.now c.args.other.now c.in-Some.name.now (view c.in-Some._value) l.0 false (sym c.if-is_either.false ∙ c.is_either.ensures) in
    (put c.in-Some.name.now (view c.in-Some._value) l.0, l.1 ∙ c.in-Some.ensures.value l.0, l.2 ∙ sym (one ∙ or-false _))
