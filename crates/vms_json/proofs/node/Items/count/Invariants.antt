use Rattle.vms_json.proofs.Facade.{◌≡◌, ◌+◌, ◌≤◌, length, items_len, items_left}
use Rattle.vms_json.proofs.node.Items.count.Given as goal

abbrev pub invariant-loop-item : goal.invariant-loop-item
invariant-loop-item l =
    (items_len (items_left l.fn.self) ≡ l.count + items_len (items_left l.left)) × (l.count + length l.left.rows.now ≤ length l.fn.self.rows.now)

abbrev pub decreases-loop-item : goal.decreases-loop-item
decreases-loop-item l = length l.left.rows.now
