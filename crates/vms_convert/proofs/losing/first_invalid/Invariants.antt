use Rattle.vms_convert.proofs.Facade.{ℕ, ◌<◌, map, described, state_of, IsValidAt}
use Rattle.vms_convert.proofs.losing.first_invalid.Given as goal

abbrev pub invariant-loop-device : goal.invariant-loop-device
invariant-loop-device l = (i : ℕ) → i < l.device → IsValidAt (described l.to) (described l.newest) (map state_of l.images) i
