use Rattle.vms_rules.proofs.Facade.{◌<◌, ◌≤◌, length, ap, arith, length-map, device_fault, device_of, set_of, drop_more}
use Rattle.vms_rules.proofs.WalkLaws.{stops_by, goes_on, stops_here, spots_good}
use Rattle.vms_rules.proofs.devices.check_devices.Goals as goal

pub returns-in_err-check_device : goal.returns-in_err-check_device
returns-in_err-check_device c =
    let set = set_of c.args.parts.now in
    let lt : c.loop-number.number < length set.devices =
    omega (arith, length-map c.args.parts.now.devices device_of, ap length c.as_slice-number-end.ensures) in
    stops_by _ _ _ c.from_residual.ensures.1 (stops_here _ _ _ _ _ _ (drop_more set.devices _ _ lt) c.loop-number.invariant _ c.in_err-check_device.ensures)

pub loop-number-preserved : goal.loop-number-preserved
loop-number-preserved c =
    let set = set_of c.args.parts.now in
    let lt : c.loop-number.number < length set.devices =
    omega (arith, length-map c.args.parts.now.devices device_of, ap length c.as_slice-number-end.ensures) in
    goes_on (device_fault set) _ _ _ _ _ (drop_more set.devices _ _ lt) c.loop-number.invariant c.in_ok-check_device.ensures

pub returns : goal.returns
returns c =
    let set = set_of c.args.parts.now in
    let all : length set.devices ≤ c.loop-number.number =
    omega (arith, length-map c.args.parts.now.devices device_of, ap length c.as_slice-number-end.ensures) in
    spots_good (device_fault set) set.devices _ _ all c.loop-number.invariant
