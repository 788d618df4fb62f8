use Rattle.vms_json.proofs.Facade.{◌≡◌, length, option_map, Members, get_member, view, members_left, members_on}
use Rattle.vms_json.proofs.node.find.Given as goal

abbrev pub invariant-loop-name : goal.invariant-loop-name
invariant-loop-name l =
    (before : Members) × (members_left l.fn.members ≡ members_on l.members before) × (get_member l.key before ≡ option_map view l.found)

abbrev pub decreases-loop-name : goal.decreases-loop-name
decreases-loop-name l = length l.members.rows.now
