use Rattle.vms_check.proofs.Facade.{◌≡◌, drop, list_all, is_one_of}
use Rattle.vms_check.proofs.sets.are_all_in.Given as goal

abbrev pub invariant-loop-name : goal.invariant-loop-name
invariant-loop-name l = list_all (is_one_of l.known) (drop l.name-index l.names) ≡ list_all (is_one_of l.known) l.names
