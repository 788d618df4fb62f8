use Rattle.vms_selfdesc.proofs.Facade.{◌≡◌, drop, own_cells, first_cell, described, device_at, sub_trees}
use Rattle.vms_spec.specs.declared.Part.TheVariants as parts
use Rattle.vms_selfdesc.proofs.alike.are_subs_alike.Given as goal

-- if what is left is the same, all is
abbrev pub invariant-loop-sub : goal.invariant-loop-sub
invariant-loop-sub l =
    let set = described l.pair.set.now in
    let d = device_at set l.device in
    let at = first_cell set (parts.Sub l.device l.sub) in
    let first = l.pair.first.now in
    let second = l.pair.second.now in
    sub_trees set first.numbers at (drop l.sub d.subs) (drop l.sub first.came) ≡ sub_trees set second.numbers at (drop l.sub d.subs) (drop l.sub second.came)
    → sub_trees set first.numbers (own_cells set d) d.subs first.came ≡ sub_trees set second.numbers (own_cells set d) d.subs second.came
