use Rattle.vms_rules.proofs.Facade.{◌≡◌, [], map, sym, ◌∙◌, no_desc, device_of, get_map_at, numbered}
use Rattle.vms_rules.proofs.WalkLaws.{same_device}
use Rattle.vms_rules.proofs.devices.is_taken.Goals as goal

pub returns : goal.returns
returns c =
    let ds = map device_of c.args.devices.now in
    let i = c.args.number in
    let x = c.index-devices-number.result in
    let at : numbered ds i ≡ device_of x =
    get_map_at device_of c.args.devices.now i x (record { instance = 0; desc = no_desc; subs = [] }) c.requires c.index-devices-number.is in
    c.is_among.ensures ∙ sym (same_device x.desc.name x.instance i c.args.devices.now) ∙ rw at
