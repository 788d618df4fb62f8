use Rattle.vms_json.proofs.Facade.{◌≡◌, length, some_ask, items_left}
use Rattle.vms_json.proofs.asked.any_asks.Given as goal

abbrev pub invariant-loop-field : goal.invariant-loop-field
invariant-loop-field l = some_ask (items_left l.fn.fields) ≡ some_ask (items_left l.fields)

abbrev pub decreases-loop-field : goal.decreases-loop-field
decreases-loop-field l = length l.fields.rows.now
