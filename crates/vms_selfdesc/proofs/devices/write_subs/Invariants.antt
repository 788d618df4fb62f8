use Rattle.vms_selfdesc.proofs.Facade.{drop, own_cells, first_cell, described, device_at, state_of, sub_trees}
use Rattle.vms_spec.specs.declared.Part.TheVariants as parts
use Rattle.vms_selfdesc.proofs.Trees.{Leaves}
use Rattle.vms_selfdesc.proofs.devices.write_subs.Given as goal

abbrev pub invariant-loop-sub : goal.invariant-loop-sub
invariant-loop-sub l =
    let set = described l.lister.set.now in
    let d = device_at set l.device in
    let image = state_of l.lister.image.now in
    Leaves (λ d. d) l.initial.draft l.draft (sub_trees set image.numbers (own_cells set d) d.subs image.came)
    (sub_trees set image.numbers (first_cell set (parts.Sub l.device l.sub)) (drop l.sub d.subs) (drop l.sub image.came))
