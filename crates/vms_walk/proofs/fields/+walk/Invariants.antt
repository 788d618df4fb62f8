use Rattle.vms_walk.proofs.Facade.{◌≡◌, ◌+◌, ◌*◌, Ok, length, take, slots_from, described, desc_at, steps_of, table, spot_numbers, size_in}
use Rattle.vms_walk.proofs.Facade.{elements_slots, item_rank, part_rank}
use Rattle.vms_walk.proofs.fields.+walk.Given as goal

abbrev pub decreases-walk_item : goal.decreases-walk_item
decreases-walk_item g l = 2 * item_rank l.item.now

abbrev pub decreases-walk_element : goal.decreases-walk_element
decreases-walk_element g l = 10 * l.number + 6

abbrev pub decreases-walk_struct : goal.decreases-walk_struct
decreases-walk_struct g l = 10 * l.number + 5

abbrev pub decreases-walk_items : goal.decreases-walk_items
decreases-walk_items g l = 2 * item_rank l.row.item.now + 1

abbrev pub decreases-walk_row : goal.decreases-walk_row
decreases-walk_row g l = 2 * item_rank l.row.item.now + 2

abbrev pub decreases-walk_field : goal.decreases-walk_field
decreases-walk_field g l = 2 * part_rank (described l.set.now) l.here.spot.part + 3

abbrev pub decreases-walk : goal.decreases-walk
decreases-walk g l = 2 * part_rank (described l.set.now) l.spot.part + 4

abbrev pub invariant-walk_items-loop-turn : goal.invariant-walk_items-loop-turn
invariant-walk_items-loop-turn g l =
    let set = described l.set in
    let n = g.W.Cells.numbers l.walker in
    record {
      way : g.W.Walker.does (steps_of (elements_slots set l.row.item.now l.row.most n l._turn l.row.first)) l.initial.walker (Ok tt) l.walker;
      long : length n ≡ length (g.W.Cells.numbers l.initial.walker);
      here : l.cell ≡ l.row.first + l._turn * size_in set l.row.item.now;
    }

abbrev pub invariant-walk-loop-field : goal.invariant-walk-loop-field
invariant-walk-loop-field g l =
    let set = described l.set in
    let n = g.W.Cells.numbers l.walker in
    let all = (desc_at set l.spot.part).fields in
    record {
      way : g.W.Walker.does
          (steps_of (slots_from (table set) all l.spot.version (spot_numbers set l.spot n) n 0 l.spot.base (take l.field all))) l.initial.walker (Ok tt) l.walker;
      long : length n ≡ length (g.W.Cells.numbers l.initial.walker);
    }
