use Rattle.vms_check.proofs.Facade.{ap, ◌∙◌, Device, described, device_at}
use Rattle.vms_check.proofs.WholeLaws.{device_in, device_found}
use Rattle.vms_check.proofs.sets.compare_device.Goals as goal

pub compare_found-requires : goal.compare_found-requires
compare_found-requires c = record {
  old = c.requires;
  new = device_in (described c.args.new.now).devices _ _ _ c.in-Some.found c.find.ensures c.in-Some.is;
}

pub returns-in-Some : goal.returns-in-Some
returns-in-Some c =
    let old = described c.args.old.now in
    c.compare_found.ensures ∙ device_found old (described c.args.new.now) c.args.number (device_at old c.args.number) _ _ _ c.in-Some.found
    (c.as_bytes.ensures ∙ ap (λ (d : Device). d.desc.name) c.device-device.ensures)
    (ap (λ (d : Device). d.instance) c.device-device.ensures) c.find.ensures c.in-Some.is
