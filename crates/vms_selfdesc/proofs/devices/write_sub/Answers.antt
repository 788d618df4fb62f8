use Rattle.vms_selfdesc.proofs.Facade.{rules, List, ℕ, Bool, None, is_some, get_or, ap, ◌∙◌, refl, object, described, desc_at, sub_inside, part_entries}
use Rattle.vms_selfdesc.proofs.{Facade.numbers_in, Facade.sub_members, Plain.further, Plain.sub_plain, ReadBack.sub_sound, Trees.fields_adds, Trees.head_text}
use Rattle.vms_spec.specs.declared.Part.TheVariants as parts
use Rattle.vms_selfdesc.proofs.devices.write_sub.Goals as goal

pub write_fields-requires : goal.write_fields-requires
write_fields-requires c = search (rules, sub_inside)

pub put_sub_head-requires : goal.put_sub_head-requires
put_sub_head-requires c =
    let set = described c.args.lister.now.set.now in
    rw (ap (λ d. d.name) c.desc.ensures)
    (sub_plain _ c.args.lister.now.set.now.well_formed _ _ c.requires.device.is_device c.requires.is_sub)

pub returns : goal.returns
returns c =
    let lister = c.args.lister.now in
    let set = described lister.set.now in
    let part = parts.Sub c.args.device c.args.sub in
    let desc = c.desc.result.now in
    let fields = c.write_fields.ensures in
    let head = c.put_sub_head.ensures in
    let sent = c.is_some-sent.result in
    let entries = λ (sent : Bool) (cell : ℕ). part_entries set (desc_at set part) sent (numbers_in lister) cell in
    let tree = λ (sent : Bool) (name : List ℕ) (version cell : ℕ). object (sub_members (entries sent cell) name sent version) in
    let same = ap (λ x. tree x desc.name desc.version c.first_cell-cell.result) (c.is_some-sent.ensures ∙ ap is_some c.came.ensures)
    ∙ ap (λ d. tree (is_some (get_or lister.image.now.came c.args.sub None)) d.name d.version c.first_cell-cell.result) c.desc.ensures
    ∙ ap (λ x. tree (is_some (get_or lister.image.now.came c.args.sub None)) (desc_at set part).name (desc_at set part).version x)
    c.first_cell-cell.ensures in
    rw (← same) (fields_adds c.begin.ensures fields (further head.text c.push.ensures) (head_text desc.name sent desc.version)
    (sub_sound _ _ _ _ fields.sound head.sound) refl refl)
