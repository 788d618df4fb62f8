use Rattle.vms_convert.proofs.Facade.{◌≡◌, length, sym, ap, ◌∙◌, arith, length-map, refl, Set, device_of, described}
use Rattle.vms_convert.proofs.LostLaws.{route_more}
use Rattle.vms_convert.proofs.room.routes_to.Goals as goal

pub loop-device-init : goal.loop-device-init
loop-device-init c = rw c.in_ok-routes.ensures.items (record { count = refl; each = λ i r e. absurd (cc) })

pub loop-device-preserved : goal.loop-device-preserved
loop-device-preserved c =
    rw c.in_ok-push.ensures.items (route_more (described c.args.to.now) (described c.args.newest.now) c.loop-device.device c.loop-device.routes.items
    c.in_ok-route_to.field-0 c.loop-device.invariant c.in_ok-route_to.ensures)

pub returns : goal.returns
returns c =
    let n = ap length c.as_slice-devices.ensures ∙ sym (length-map c.parts.result.now.devices device_of) ∙ ap (λ (s : Set). length s.devices) c.parts.ensures in
    let all : c.loop-device.device ≡ length (described c.args.to.now).devices = omega (arith, c.loop-device-test.false, c.loop-device.auto.device-end) in
    rw (← all) c.loop-device.invariant
