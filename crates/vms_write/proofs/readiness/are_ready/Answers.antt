use Rattle.vms_write.proofs.Facade
use Facade.{OnTrue_at, OnFalse_at, ◌<◌, length, map, sym, ap, ◌∙◌, arith, length-map, device_of, described, state_of, states_long, state_at, image_at}
use Rattle.vms_write.proofs.Sections.{none_so_far, one_more, not_all, all_ready, all_of}
use Rattle.vms_write.proofs.readiness.are_ready.Goals as goal

pub loop-device-init : goal.loop-device-init
loop-device-init c = record {
  long = c.if-images-as_slice.false ∙ ap length c.as_slice.ensures ∙ sym (length-map c.parts.result.now.devices device_of) ∙ ap (λ s. length s.devices) c.parts.ensures;
  ready = none_so_far _ (map state_of c.args.images.now);
  of = none_so_far _ c.args.images.now;
}

pub loop-device-preserved : goal.loop-device-preserved
loop-device-preserved c =
    let inv = c.loop-device.invariant in
    let is = state_at c.args.images.now c.loop-device.device c.index-images-device.result c.loop-device-test.true c.index-images-device.is in
    record {
      long = inv.long;
      ready = one_more inv.ready is (OnTrue_at c.if-not-may_be_written.false c.may_be_written.ensures.ready);
      of = one_more inv.of c.index-images-device.is (OnTrue_at c.if-not-may_be_written.false c.may_be_written.ensures.of);
    }

pub returns-then-not-may_be_written-clause-other : goal.returns-then-not-may_be_written-clause-other
returns-then-not-may_be_written-clause-other c =
    let images = c.args.images.now in
    let image = c.index-images-device.result in
    let k = c.loop-device.device in
    let lt : k < length (map state_of images) = omega (arith, states_long images) in
    λ of. not_all (described c.args.set.now) (map state_of images) k (state_of image) lt (state_at images k image c.loop-device-test.true c.index-images-device.is)
    (OnFalse_at c.if-not-may_be_written.true c.may_be_written.ensures.other (of.each k image (image_at images k image c.loop-device-test.true c.index-images-device.is)))

pub returns-clause-ready : goal.returns-clause-ready
returns-clause-ready c =
    let images = c.args.images.now in
    all_ready (described c.args.set.now) (map state_of images) _ c.loop-device.invariant.ready (states_long images ∙ c.loop-device.invariant.long)
    (omega (arith, states_long images))

pub returns-clause-of : goal.returns-clause-of
returns-clause-of c = grind (arith, all_of)
