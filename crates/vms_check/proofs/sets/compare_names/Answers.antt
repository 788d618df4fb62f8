use Rattle.vms_check.proofs.Facade.{◌≡◌, map, ap, ◌∙◌, Set, device_of, described}
use Rattle.vms_check.proofs.WholeLaws.{old_lost, new_lost, none_lost}
use Rattle.vms_check.proofs.sets.compare_names.Goals.{After-as_slice, After-as_slice-2}
use Rattle.vms_check.proofs.sets.compare_names.Goals as goal

before : (c : After-as_slice) → map device_of c.as_slice.result.now ≡ (described c.args.old.now).devices
before c = ap (map device_of) c.as_slice.ensures ∙ ap (λ (s : Set). s.devices) c.parts.ensures

after : (c : After-as_slice-2) → map device_of c.as_slice-2.result.now ≡ (described c.args.new.now).devices
after c = ap (map device_of) c.as_slice-2.ensures ∙ ap (λ (s : Set). s.devices) c.parts-2.ensures

pub returns-in-Some : goal.returns-in-Some
returns-in-Some c =
    old_lost (described c.args.old.now) (described c.args.new.now) _
    (before (goal.at.returns-in-Some c).After-as_slice) _ c.missing.ensures _ c.in-Some.is _ _ c.here.ensures c.here-in-Some.ensures

pub returns-in-Some-missing : goal.returns-in-Some-missing
returns-in-Some-missing c =
    let at = goal.at.returns-in-Some-missing c in
    new_lost (described c.args.old.now) (described c.args.new.now) _ _ (before at.After-as_slice)
    (after at.After-as_slice-2) _ _ c.missing.ensures c.missing-2.ensures c.in_default.is
    _ c.in-Some-missing.is _ _ c.here-in-Some-missing.ensures c.here-in-Some-missing-2.ensures

pub returns : goal.returns
returns c =
    let at = goal.at.returns c in
    none_lost (described c.args.old.now) (described c.args.new.now) _ _ (before at.After-as_slice)
    (after at.After-as_slice-2) _ _ c.missing.ensures c.missing-2.ensures c.in_default.is c.in_default-missing.is
