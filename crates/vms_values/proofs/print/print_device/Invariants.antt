use Rattle.vms_values.proofs.Facade.{drop, own_cells, sub_lines, first_cell, described, device_at, state_of, outlet, Leaves}
use Rattle.vms_spec.specs.declared.Part.TheVariants as parts
use Rattle.vms_values.proofs.print.print_device.Given as goal

abbrev pub invariant-loop-sub : goal.invariant-loop-sub
invariant-loop-sub g l =
    let set = described l.shown.set.now in
    let d = device_at set l.device in
    let image = state_of l.shown.image.now in
    Leaves (outlet g.K.Sink l.initial.sink) (outlet g.K.Sink l.sink) (sub_lines set image.numbers (own_cells set d) d.subs image.came)
    (sub_lines set image.numbers (first_cell set (parts.Sub l.device l.sub)) (drop l.sub d.subs) (drop l.sub image.came))
