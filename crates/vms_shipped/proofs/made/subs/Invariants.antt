use Rattle.vms_shipped.proofs.Facade.{◌≡◌, map, take, sub_of, sub_in}
use Rattle.vms_shipped.proofs.made.subs.Given as goal

abbrev pub invariant-loop-row : goal.invariant-loop-row
invariant-loop-row l = map sub_of l.subs.items ≡ map sub_in (take l.row-index l.rows)
