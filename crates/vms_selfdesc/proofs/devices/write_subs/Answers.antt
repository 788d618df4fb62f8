use Rattle.vms_selfdesc.proofs.Facade.{rules, ◌∷◌, [], false, refl, arith, described, state_of}
use Rattle.vms_selfdesc.proofs.Trees.{lays, leaves_all, leaves_rest, leaves_none, subs_begin, subs_next, subs_end}
use Rattle.vms_selfdesc.proofs.devices.write_subs.Goals as goal

pub loop-sub-init : goal.loop-sub-init
loop-sub-init c =
    leaves_all (record { text = c.push.new.self; path = c.args.draft.now.path; later = false })
    (subs_begin (described c.args.lister.now.set.now) c.args.device (state_of c.args.lister.now.image.now))

pub write_sub-requires : goal.write_sub-requires
write_sub-requires c = search rules

pub loop-sub-preserved : goal.loop-sub-preserved
loop-sub-preserved c =
    let set = described c.args.lister.now.set.now in
    leaves_rest (_ ∷ []) c.loop-sub.invariant
    (subs_next set c.args.device (state_of c.args.lister.now.image.now) c.loop-sub.sub (omega arith) (omega arith)) c.write_sub.ensures

pub returns : goal.returns
returns c =
    let all = subs_end (described c.args.lister.now.set.now) c.args.device (state_of c.args.lister.now.image.now) c.loop-sub.sub (omega arith) in
    lays c.push.ensures (leaves_none all c.loop-sub.invariant) c.push-2.ensures refl
