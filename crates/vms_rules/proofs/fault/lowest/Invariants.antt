use Rattle.vms_rules.proofs.Facade.{◌≡◌, ◌+◌, drop, failing}
use Rattle.vms_rules.proofs.fault.lowest.Given as goal

abbrev pub invariant-loop-index : goal.invariant-loop-index
invariant-loop-index l = failing (l.index + 1) (drop l.index l.holds-items) l.place ≡ failing 1 l.holds-items l.place
