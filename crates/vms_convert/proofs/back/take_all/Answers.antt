use Rattle.vms_convert.proofs.Facade.{spot_slots, steps_of, takes_keeps, ◌≡◌, ◌<◌, length, refl, ap, ◌∙◌, arith, length-map, IsGood, Cell}
use Rattle.vms_convert.proofs.Facade.{device_cells, described, device_at, good_of, Typed}
use Rattle.vms_convert.proofs.{Converts.own_spot, Converts.sub_spot, TakeLaws.put_rest, TakeLaws.took_all, TakeLaws.took_own, TakeLaws.took_sub}
use Rattle.vms_convert.proofs.back.take_all.Goals as goal

pub take_part-requires-clause-part : goal.take_part-requires-clause-part
take_part-requires-clause-part c =
    let set = described c.args.set.now in
    let n = c.args.image.now.numbers in
    let cells = device_cells set (device_at set c.args.device) in
    let long : length n ≡ length cells = rw (c.requires.fresh) (length-map cells (λ (x : Cell). x.default)) in
    rw c.whole_part-own.ensures (own_spot set c.args.device c.requires.device c.args.set.now.well_formed n long)

pub loop-sub-init : goal.loop-sub-init
loop-sub-init c =
    let set = described c.args.set.now in
    let source = c.args.source.now.numbers in
    let before = c.args.image.now in
    let now = c.take_part.new.image in
    let steps = steps_of (spot_slots set c.whole_part-own.result now.numbers) in
    record {
      rest = put_rest before before now _ refl c.take_part.ensures;
      first = took_own set c.args.device c.requires.device (good_of set c.args.set.now.well_formed c.args.set.now.heads) c.args.partners.now source now.numbers
          (rw (c.whole_part-own.ensures, c.requires.fresh) at (ap (λ x. x.numbers) c.take_part.ensures));
      long = (takes_keeps c.args.partners.now source steps before now c.take_part.ensures).long ∙ ap (λ (x : Typed). length x.numbers) c.requires.fresh
          ∙ length-map (device_cells set (device_at set c.args.device)) (λ (x : Cell). x.default);
    }

pub take_part-requires-in-loop-sub-clause-part : goal.take_part-requires-in-loop-sub-clause-part
take_part-requires-in-loop-sub-clause-part c =
    let set = described c.args.set.now in
    let less : c.loop-sub.sub < length (device_at set c.args.device).subs = omega arith in
    rw c.whole_part-part.ensures (sub_spot set c.args.device c.requires.device c.args.set.now.well_formed _ c.loop-sub.invariant.long c.loop-sub.sub less)

pub loop-sub-preserved : goal.loop-sub-preserved
loop-sub-preserved c =
    let set = described c.args.set.now in
    let ps = c.args.partners.now in
    let source = c.args.source.now.numbers in
    let now = c.take_part-in-loop-sub.new.image in
    let put = c.take_part-in-loop-sub.ensures in
    let good : IsGood set = good_of set c.args.set.now.well_formed c.args.set.now.heads in
    let less : c.loop-sub.sub < length (device_at set c.args.device).subs = omega arith in
    record {
      rest = put_rest c.args.image.now c.loop-sub.image now _ c.loop-sub.invariant.rest put;
      first = took_sub set c.args.device c.requires.device good ps source c.loop-sub.image.numbers now.numbers c.loop-sub.sub less c.loop-sub.invariant.first
          (rw c.whole_part-part.ensures at (ap (λ x. x.numbers) put));
      long = (takes_keeps ps source (steps_of (spot_slots set c.whole_part-part.result now.numbers)) c.loop-sub.image now put).long ∙ c.loop-sub.invariant.long;
    }

pub returns : goal.returns
returns c =
    let set = described c.args.set.now in
    let good : IsGood set = good_of set c.args.set.now.well_formed c.args.set.now.heads in
    record {
      taken = took_all set c.args.device c.requires.device good c.args.partners.now c.args.source.now.numbers c.loop-sub.image.numbers c.loop-sub.sub
          (omega arith) c.loop-sub.invariant.first c.loop-sub.invariant.long;
      rest = c.loop-sub.invariant.rest;
    }
