use Rattle.vms_selfdesc.proofs.{Facade.elements_list, Facade.part_list, Facade.item_rank, Facade.part_rank, Trees.fields_list, Trees.Leaves}
use Rattle.vms_selfdesc.proofs.Facade.{◌≡◌, ◌+◌, ◌-◌, ◌*◌, string_bytes, item_size, struct_cells, field_of, described, element_entries, entry_tree, item_list}
use Rattle.vms_selfdesc.proofs.fields.+list.Given as goal

abbrev pub decreases-list_item : goal.decreases-list_item
decreases-list_item l = 2 * item_rank l.field.now.item

abbrev pub decreases-list_elements : goal.decreases-list_elements
decreases-list_elements l = 2 * item_rank l.field.now.item + 1

abbrev pub decreases-list_run : goal.decreases-list_run
decreases-list_run l = 2 * item_rank l.field.now.item + 2

abbrev pub decreases-list_field : goal.decreases-list_field
decreases-list_field l = 2 * part_rank (described l.lister.now.set.now) l.part + 3

abbrev pub decreases-list_part : goal.decreases-list_part
decreases-list_part l = 2 * part_rank (described l.lister.now.set.now) l.part + 4

abbrev pub decreases-list_struct : goal.decreases-list_struct
decreases-list_struct l = 10 * l.number + 5

abbrev pub invariant-list_elements-loop-number : goal.invariant-list_elements-loop-number
invariant-list_elements-loop-number l =
    let set = described l.lister.set.now in
    let f = field_of l.field in
    let n = l.lister.image.now.numbers in
    let path = string_bytes l.initial.draft.path.text in
    let size = item_size (struct_cells set) f.item in
    record {
      lists : Leaves entry_tree l.initial.draft l.draft (elements_list set f l.place.sent n path l.place.cell l.count)
          (element_entries (item_list set f l.place.sent n) path l.cell size l.number (l.count - l.number));
      here : l.cell ≡ l.place.cell + l.number * size;
    }

abbrev pub invariant-list_part-loop-field : goal.invariant-list_part-loop-field
invariant-list_part-loop-field l =
    let set = described l.lister.set.now in
    let n = l.lister.image.now.numbers in
    let path = string_bytes l.initial.draft.path.text in
    Leaves entry_tree l.initial.draft l.draft (part_list set l.part l.place.sent n path l.place.cell)
    (fields_list set l.part l.place.cell l.field l.place.sent n path)
