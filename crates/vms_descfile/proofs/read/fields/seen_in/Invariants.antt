use Rattle.vms_descfile.proofs.Facade.{◌≡◌, length, option_map, members_left, members_on, view, plain_members}
use Rattle.vms_descfile.proofs.read.fields.seen_in.Given as goal

abbrev pub invariant-loop-key : goal.invariant-loop-key
invariant-loop-key l =
    members_left l.fn.members ≡ members_on l.members (plain_members (option_map view l.former) (option_map view l.kind) (option_map view l.name))

abbrev pub decreases-loop-key : goal.decreases-loop-key
decreases-loop-key l = length l.members.rows.now
