use Rattle.vms_values.proofs.Facade.{◌≡◌, ◌<◌, ◌∷◌, ◌++◌, [], length, map, ap, ◌∙◌, arith, err_from_is_err_and, length-map}
use Rattle.vms_values.proofs.Facade.{map-append, device_of, described, state_of, sym}
use Rattle.vms_values.proofs.DeviceLemmas.{gathered_next, gathered_refused, gathered_all, first_more}
use Rattle.vms_values.proofs.devices.read_images.Goals as goal

pub loop-device-preserved : goal.loop-device-preserved
loop-device-preserved c =
    let set = described c.args.set.now in
    let i = c.loop-device.device in
    let image = c.in_ok-image.image in
    let before = c.loop-device.images.items in
    let lt : i < length set.devices = omega (arith, ap length c.as_slice.ensures, ap (λ s. length s.devices) c.parts.ensures, length-map c.parts.result.now.devices device_of) in
    let pushed : c.push_image.new.images.items ≡ before ++ image ∷ [] = c.in_ok-push_image.ensures in
    record {
      gathered = gathered_next _ _ lt _ _ _ _ _ _ _ c.loop-device.invariant.gathered
          c.in_ok-image.ensures.read (ap (map state_of) pushed ∙ map-append state_of before (image ∷ []));
      of = first_more _ _ _ _ image c.loop-device.invariant.of c.in_ok-image.ensures.of pushed;
    }

pub returns-in_err-image : goal.returns-in_err-image
returns-in_err-image c =
    let set = described c.args.set.now in
    let i = c.loop-device.device in
    let lt : i < length set.devices = omega (arith, ap length c.as_slice.ensures, ap (λ s. length s.devices) c.parts.ensures, length-map c.parts.result.now.devices device_of) in
    let p = err_from_is_err_and c.from_residual.result c.from_residual.ensures.1 in
    record {
      read = rw (p.1, p.2) (gathered_refused _ _ lt _ _ _ _ _ _ _ _ c.loop-device.invariant.gathered c.in_err-image.ensures.read);
      of = rw p.1 tt;
    }

pub returns : goal.returns
returns c =
    let set = described c.args.set.now in
    let end : length set.devices ≡ c.loop-device.device = omega (arith, ap length c.as_slice.ensures, ap (λ s. length s.devices) c.parts.ensures, length-map c.parts.result.now.devices device_of) in
    record {
      read = gathered_all _ _ _ _ _ _ end c.loop-device.invariant.gathered;
      of = record { one_each = c.loop-device.invariant.of.count ∙ sym end; each = c.loop-device.invariant.of.each };
    }
