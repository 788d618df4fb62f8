use Rattle.vms_values.proofs.{Facade.Leaves, Printers.fields_left}
use Rattle.vms_values.proofs.Facade.{◌≡◌, ◌+◌, ◌-◌, ◌*◌, printers, desc_lines, element_lines, described, desc_at, size_in, item_rank, part_rank, Stays, outlet}
use Rattle.vms_values.proofs.shown.+print.Given as goal

abbrev pub decreases-print_elements : goal.decreases-print_elements
decreases-print_elements g l = item_rank l.item.now + 1

abbrev pub decreases-print_field : goal.decreases-print_field
decreases-print_field g l = item_rank l.field.now.item + 2

abbrev pub decreases-print_item : goal.decreases-print_item
decreases-print_item g l = item_rank l.item.now

abbrev pub decreases-print_struct : goal.decreases-print_struct
decreases-print_struct g l = 5 * l.number + 4

abbrev pub decreases-print_part : goal.decreases-print_part
decreases-print_part g l = part_rank (described l.shown.set.now) l.spot.part + 3

abbrev pub invariant-print_elements-loop-index : goal.invariant-print_elements-loop-index
invariant-print_elements-loop-index g l =
    let set = described l.shown.set.now in
    let n = l.shown.image.now.numbers in
    let ps = printers set in
    let run = l.fn.run in
    let size = size_in set l.item in
    record {
      owes : Leaves (outlet g.K.Sink l.initial.sink) (outlet g.K.Sink l.sink)
          (element_lines ps l.item l.initial.line n run.first size 0 run.count)
          (element_lines ps l.item l.initial.line n l.cell size l.index (run.count - l.index));
      line : Stays l.initial.line l.line;
      here : l.cell ≡ run.first + l.index * size;
    }

abbrev pub invariant-print_part-loop-field : goal.invariant-print_part-loop-field
invariant-print_part-loop-field g l =
    let set = described l.shown.set.now in
    let n = l.shown.image.now.numbers in
    let path = l.initial.line in
    record {
      owes : Leaves (outlet g.K.Sink l.initial.sink) (outlet g.K.Sink l.sink)
          (desc_lines (printers set) (desc_at set l.spot.part) path n l.spot.base) (fields_left set l.spot path n l.field);
      line : Stays path l.line;
    }
