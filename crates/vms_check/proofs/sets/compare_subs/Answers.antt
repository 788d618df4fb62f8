use Rattle.vms_check.proofs.Facade.{◌≡◌, length, map, ap, ◌∙◌, arith, length-map, Device, sub_of, described, device_at, few_subs}
use Rattle.vms_check.proofs.sets.compare_subs.Goals.{After-as_slice}
use Rattle.vms_check.proofs.sets.compare_subs.Goals as goal

subs : (c : After-as_slice) → length c.as_slice.result.now ≡ length (device_at (described c.args.old.now) c.args.in_old).subs
subs c =
    omega (arith, length-map c.as_slice.result.now sub_of, ap length (ap (map sub_of) c.as_slice.ensures ∙ ap (λ (d : Device). d.subs) c.device.ensures))

pub overflow_cast-number : goal.overflow_cast-number
overflow_cast-number c =
    let old = described c.args.old.now in
    omega (arith, subs (goal.at.overflow_cast-number c).After-as_slice, few_subs old c.args.old.now.well_formed c.args.in_old c.requires.old)

pub compare_sub-requires : goal.compare_sub-requires
compare_sub-requires c =
    let long = subs (goal.at.compare_sub-requires c).After-as_slice in record { old = (c.requires.old, omega arith); new = c.requires.new }
