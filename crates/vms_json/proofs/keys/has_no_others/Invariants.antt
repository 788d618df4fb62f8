use Rattle.vms_json.proofs.Facade.{◌≡◌, ◌++◌, true, length, map, Members, has_no_others, members_left, members_on}
use Rattle.vms_json.proofs.keys.has_no_others.Given as goal

abbrev pub invariant-loop-key : goal.invariant-loop-key
invariant-loop-key l =
    (before : Members) × (members_left l.fn.members ≡ members_on l.members before) ×
    (has_no_others (map (λ k. k.now) l.needed ++ map (λ k. k.now) l.allowed) before ≡ true)

abbrev pub decreases-loop-key : goal.decreases-loop-key
decreases-loop-key l = length l.members.rows.now
