use Rattle.vms_json.proofs.Facade.{◌≡◌, ◌+◌, ◌≤◌, length, map, each_from, items_left}
use Rattle.vms_json.proofs.KeyLaws.{before}
use Rattle.vms_json.proofs.lists.read_each.Given as goal

abbrev pub invariant-loop-item : goal.invariant-loop-item
invariant-loop-item g l =
    (each_from (g.R.Reads.says l.reader) 0 (items_left l.fn.items) ≡ before (map g.R.Reads.means l.list.items) (each_from (g.R.Reads.says l.reader) l.i (items_left l.items)))
    × (l.i + length l.items.rows.now ≤ length l.fn.items.rows.now)

abbrev pub decreases-loop-item : goal.decreases-loop-item
decreases-loop-item g l = length l.items.rows.now
