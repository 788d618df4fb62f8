use Rattle.vms_json.proofs.Facade.{◌≡◌, length, Members, has_one, members_left, members_on}
use Rattle.vms_json.proofs.keys.have_either.Given as goal

abbrev pub invariant-loop-name : goal.invariant-loop-name
invariant-loop-name l = (before : Members) × (members_left l.fn.members ≡ members_on l.members before) × (l.found ≡ has_one l.key l.other before)

abbrev pub decreases-loop-name : goal.decreases-loop-name
decreases-loop-name l = length l.members.rows.now
