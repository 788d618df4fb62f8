use Rattle.vms_selfdesc.proofs.Facade.{rules, List, ℕ, false, map, subst, refl, Draft, Adds, entry_tree, numbers_in, part_list, set_in}
use Rattle.vms_selfdesc.proofs.{Plain.few_levels, Trees.lays}
use Rattle.vms_selfdesc.proofs.devices.write_fields.Goals as goal

pub list_part-requires : goal.list_part-requires
list_part-requires c = search (rules, few_levels)

pub returns : goal.returns
returns c =
    let lister = c.args.lister.now in
    let trees = λ (path : List ℕ). map entry_tree (part_list (set_in lister) c.args.part c.args.place.sent (numbers_in lister) path c.args.place.cell) in
    let begun : Draft = record { text = c.push.new.self; path = c.args.draft.now.path; later = false } in
    lays c.push.ensures (subst (λ path. Adds begun c.list_part.new.draft (trees path)) c.requires.no_path c.list_part.ensures) c.push-2.ensures refl
