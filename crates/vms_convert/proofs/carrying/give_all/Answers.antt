use Rattle.vms_convert.proofs.Facade.{◌<◌, List, ℤ, length, refl, ap, ◌∙◌, arith, described, device_at, state_of, steps_of}
use Rattle.vms_convert.proofs.{TakeLaws.first_slots, TakeLaws.put_rest, BackNormal.steps_long}
use Rattle.vms_convert.proofs.Converts.{own_spot, gave_all, gave_own, gave_sub}
use Rattle.vms_convert.proofs.carrying.give_all.Goals as goal

pub give_part-requires-clause-part : goal.give_part-requires-clause-part
give_part-requires-clause-part c =
    rw c.whole_part.ensures
    (own_spot (described c.args.set.now) c.args.device c.requires.device c.args.set.now.well_formed c.args.gift.image.now.numbers c.requires.of.cells)

pub loop-sub-init : goal.loop-sub-init
loop-sub-init c =
    let given = gave_own (described c.args.set.now) c.args.device c.requires.device (state_of c.args.gift.image.now) c.requires.of.subs c.requires.version
    c.args.gift.partners.now c.args.target.now.numbers in
    rw (c.whole_part.ensures, given) at c.give_part.ensures

pub give_sub-requires : goal.give_sub-requires
give_sub-requires c =
    let set = described c.args.set.now in
    let image = c.args.gift.image.now in
    let steps = steps_of (first_slots set (device_at set c.args.device) image.came c.loop-sub.sub image.numbers) in
    record {
      device = c.requires.device;
      sub = omega arith;
      of = c.requires.of;
      may = record {
        targets = rw c.loop-sub.invariant c.requires.may.targets;
        kinds = rw (c.loop-sub.invariant, steps_long c.args.gift.partners.now image.numbers steps c.args.target.now.numbers) c.requires.may.kinds;
      };
    }

pub loop-sub-preserved : goal.loop-sub-preserved
loop-sub-preserved c =
    let set = described c.args.set.now in
    let image = c.args.gift.image.now in
    let ps = c.args.gift.partners.now in
    let target = c.args.target.now in
    let before = c.loop-sub.target in
    let now = c.give_sub.new.target in
    let j = c.loop-sub.sub in
    let less : j < length (device_at set c.args.device).subs = omega arith in
    put_rest target before now _ (put_rest target target before _ refl c.loop-sub.invariant) c.give_sub.ensures
    ∙ ap (λ (l : List ℤ). record target { numbers = l })
    (gave_sub set c.args.device c.requires.device (state_of image) c.requires.of.subs c.requires.version ps target.numbers before.numbers now.numbers j less
    (rw (c.loop-sub.invariant)) (rw (c.give_sub.ensures)))

pub returns : goal.returns
returns c =
    let given = gave_all (described c.args.set.now) c.args.device c.requires.device (state_of c.args.gift.image.now) c.requires.of.subs c.requires.version
    c.args.gift.partners.now c.args.target.now.numbers c.loop-sub.sub (omega arith) (omega arith) in
    rw given at c.loop-sub.invariant
