use Rattle.vms_selfdesc.proofs.Facade.{◌≤◌, ◌∙◌, ◌∷◌, ap₂, sym, arith, length, described, device_at, state_of, OnTrue_at}
use Rattle.vms_selfdesc.proofs.Trees.{subs_begin, subs_next, subs_end}
use Rattle.vms_selfdesc.proofs.alike.are_subs_alike.Goals as goal

pub loop-sub-init : goal.loop-sub-init
loop-sub-init c =
    let set = described c.args.pair.now.set.now in
    λ rest.
    subs_begin set c.args.device (state_of c.args.pair.now.first.now) ∙ rest
    ∙ sym (subs_begin set c.args.device (state_of c.args.pair.now.second.now))

pub loop-sub-preserved : goal.loop-sub-preserved
loop-sub-preserved c =
    let set = described c.args.pair.now.set.now in
    let j = c.loop-sub.sub in
    λ rest. c.loop-sub.invariant
    (subs_next set c.args.device (state_of c.args.pair.now.first.now) j (omega arith) (omega (arith, c.requires.first.subs))
    ∙ ap₂ (λ x l. x ∷ l) (OnTrue_at c.if-not-is_sub_alike.false c.is_sub_alike.ensures) rest
    ∙ sym (subs_next set c.args.device (state_of c.args.pair.now.second.now) j (omega arith) (omega (arith, c.requires.second.subs))))

pub returns : goal.returns
returns c =
    let set = described c.args.pair.now.set.now in
    let j = c.loop-sub.sub in
    let over : length (device_at set c.args.device).subs ≤ j = omega arith in
    c.loop-sub.invariant
    (subs_end set c.args.device (state_of c.args.pair.now.first.now) j over ∙ sym (subs_end set c.args.device (state_of c.args.pair.now.second.now) j over))
