use Rattle.vms_json.proofs.Facade.{◌≡◌, ◌+◌, ◌≤◌, ◌-◌, items_len, items_left}
use Rattle.vms_json.proofs.lists.room_for.Given as goal

abbrev pub invariant-loop-room : goal.invariant-loop-room
invariant-loop-room l = (items_len (items_left l.fn.items) ≡ l.room + items_len (items_left l.items)) × (l.room ≤ 256)

abbrev pub decreases-loop-room : goal.decreases-loop-room
decreases-loop-room l = 256 - l.room
