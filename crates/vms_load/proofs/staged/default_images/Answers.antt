use Rattle.vms_load.proofs.Facade.{◌≡◌, ◌<◌, ℕ, ap, ◌∙◌, sym, length, arith, length-map, device_of, described}
use Rattle.vms_load.proofs.HeadLemmas.{are_images, all_default, all_shaped}
use Rattle.vms_load.proofs.staged.default_images.Goals as goal

pub returns : goal.returns
returns c =
    let set = described c.args.set.now in
    let images = c.loop-device.images.items in
    let n = ap length c.as_slice-devices.ensures ∙ sym (length-map c.parts.result.now.devices device_of) ∙ ap (λ s. length s.devices) c.parts.ensures in
    let long : length images ≡ length set.devices = omega (arith, c.loop-device.invariant.long) in
    let each = λ (k : ℕ) (lt : k < length images). c.loop-device.invariant.each k (omega arith) in
    let shaped = all_shaped set images long each in
    record { states = all_default set images long each; shaped = shaped; of = are_images set images shaped }
