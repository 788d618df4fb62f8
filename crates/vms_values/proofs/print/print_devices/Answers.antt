use Rattle.vms_values.proofs.Facade.{◌≡◌, ◌+◌, ◌<◌, ◌++◌, length, drop, sym, ap, ◌∙◌, arith, map, length-map, device_lines}
use Rattle.vms_values.proofs.Facade.{devices_lines, device_of, described, device_at, state_of, states_long, state_at, IsOf, AreOf, leaves_rest, leaves_stop}
use Rattle.vms_values.proofs.{print.print_devices.Given.Over, print.print_devices.Goals.After-print_device-arg-1}
use Rattle.vms_values.proofs.Printers.{device_left, images_at, of_next, of_room, devices_next, err_is}
use Rattle.vms_values.proofs.print.print_devices.Goals as goal

pub bounds-images-device : goal.bounds-images-device
bounds-images-device g c =
    let set = described c.args.set.now in
    let long : length c.as_slice.result.now ≡ length set.devices = ap length c.as_slice.ensures ∙ sym (length-map c.parts.result.now.devices device_of) ∙ ap (λ s. length s.devices) c.parts.ensures in
    let lt : c.loop-device.device < length set.devices = omega arith in
    omega (arith, of_room set c.loop-device.device set.devices (map state_of c.args.images.now) c.loop-device.invariant.of lt, states_long c.args.images.now)

-- the image of the next device, and its lines
here : (g : Over) (c : goal.After-print_device-arg-1 g) → (let set = described c.args.set.now in let k = c.loop-device.device in let states = map state_of c.args.images.now in
    (IsOf set (device_at set k) (state_of c.index-images-device.result) × AreOf set (drop (k + 1) set.devices) (drop (k + 1) states))
    × (devices_lines set (drop k set.devices) (drop k states) ≡ device_lines set (device_at set k) (state_of c.index-images-device.result) ++ devices_lines set (drop (k + 1) set.devices) (drop (k + 1) states)))
here g c =
    let set = described c.args.set.now in
    let k = c.loop-device.device in
    let states = map state_of c.args.images.now in
    let image = state_of c.index-images-device.result in
    let long : length c.as_slice.result.now ≡ length set.devices = ap length c.as_slice.ensures ∙ sym (length-map c.parts.result.now.devices device_of) ∙ ap (λ s. length s.devices) c.parts.ensures in
    let lt : k < length set.devices = omega arith in
    let more : k < length states = of_room _ _ _ _ c.loop-device.invariant.of lt in
    let at = images_at _ _ image more (state_at c.args.images.now k c.index-images-device.result (omega (arith, states_long c.args.images.now)) c.index-images-device.is) in
    (of_next _ k set.devices states _ _ (device_left set k lt) at c.loop-device.invariant.of, devices_next set k set.devices states _ _ (device_left set k lt) at)

pub print_device-requires : goal.print_device-requires
print_device-requires g c =
    let set = described c.args.set.now in
    let long : length c.as_slice.result.now ≡ length set.devices = ap length c.as_slice.ensures ∙ sym (length-map c.parts.result.now.devices device_of) ∙ ap (λ s. length s.devices) c.parts.ensures in
    record { is_device = omega arith; of = (here g c).0.0 }

pub returns-in_err-print_device : goal.returns-in_err-print_device
returns-in_err-print_device g c =
    rw (err_is _ _ c.from_residual.ensures.1) (leaves_stop _ (here g (goal.at.returns-in_err-print_device g c).After-print_device-arg-1).1 c.loop-device.invariant.owes c.in_err-print_device.ensures)

pub loop-device-preserved : goal.loop-device-preserved
loop-device-preserved g c =
    let next = here g (goal.at.loop-device-preserved g c).After-print_device-arg-1 in
    record { owes = leaves_rest _ next.1 c.loop-device.invariant.owes c.in_ok-print_device.ensures; of = next.0.1 }
