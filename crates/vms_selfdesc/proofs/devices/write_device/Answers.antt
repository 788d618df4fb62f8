use Rattle.vms_selfdesc.proofs.Facade.{rules, true, ap, refl, codes, array, object, items_of, own_cells, described, device_at, state_of, own_inside_device}
use Rattle.vms_selfdesc.proofs.Facade.{part_entries, sub_trees, device_members}
use Rattle.vms_selfdesc.proofs.{Plain.further, Plain.device_plain, Plain.name_plain, ReadBack.device_sound, Trees.fields_adds, Trees.device_text}
use Rattle.vms_selfdesc.proofs.devices.write_device.Goals as goal

pub write_fields-requires : goal.write_fields-requires
write_fields-requires c = search (rules, own_inside_device)

pub put_name-requires : goal.put_name-requires
put_name-requires c =
    rw (ap (λ d. d.desc.name) c.device-described.ensures)
    (device_plain _ c.args.lister.now.set.now.well_formed _ c.requires.device.is_device)

pub write_subs-requires : goal.write_subs-requires
write_subs-requires c = search rules

pub put_natural-requires : goal.put_natural-requires
put_natural-requires c = name_plain (codes "version") refl

pub returns : goal.returns
returns c =
    let fields = c.write_fields.ensures in
    let name = c.put_name.ensures in
    let subs = c.write_subs.ensures in
    let version = c.put_natural.ensures in
    let image = state_of c.args.lister.now.image.now in
    let set = described c.args.lister.now.set.now in
    let d = device_at set c.args.device in
    let entries = part_entries set d.desc true image.numbers 0 in
    let trees = sub_trees set image.numbers (own_cells set d) d.subs image.came in
    let code = c.device-described.result.now in
    let rest = further name.text (further c.push.ensures (further subs.text (further version.text c.push-2.ensures))) in
    rw (← ap (λ x. object (device_members entries x.instance x.desc.name trees x.desc.version)) c.device-described.ensures)
    (fields_adds c.begin.ensures fields rest (device_text code.instance code.desc.name (array (items_of trees)) code.desc.version)
    (device_sound entries code.instance code.desc.name trees code.desc.version fields.sound name.sound subs.sound version.sound) refl subs.path)
