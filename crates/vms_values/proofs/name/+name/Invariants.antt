use Rattle.vms_values.proofs.Facade.{◌≡◌, ◌+◌, ◌<◌, ◌≤◌, [], length, get_or, MOST_ITEMS, described, item_rank, part_rank, part_names}
use Rattle.vms_values.proofs.Naming.{names_from}
use Rattle.vms_values.proofs.name.+name.Given as goal

abbrev pub decreases-print_element : goal.decreases-print_element
decreases-print_element g l = item_rank l.field.now.item + 1

abbrev pub decreases-print_name : goal.decreases-print_name
decreases-print_name g l = part_rank (described l.set.now) l.part + 2

abbrev pub invariant-print_name-loop-field : goal.invariant-print_name-loop-field
invariant-print_name-loop-field g l =
    let set = described l.set in
    record {
      same : get_or (part_names set l.part) l.fn.cell [] ≡ get_or (names_from set l.part l.field) l.left [];
      room : l.left < length (names_from set l.part l.field);
      few : length (names_from set l.part l.field) ≤ MOST_ITEMS;
      untouched : l.sink ≡ l.initial.sink;
    }
