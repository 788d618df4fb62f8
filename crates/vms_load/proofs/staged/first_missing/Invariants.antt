use Rattle.vms_load.proofs.Facade.{◌≡◌, not, drop, position}
use Rattle.vms_load.proofs.staged.first_missing.Given as goal

abbrev pub invariant-loop-i : goal.invariant-loop-i
invariant-loop-i l = position not l.i (drop l.i l.came) ≡ position not 0 l.came
