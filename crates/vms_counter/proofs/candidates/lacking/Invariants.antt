use Rattle.vms_counter.proofs.Facade.{◌≡◌, drop, lacking}
use Rattle.vms_counter.proofs.candidates.lacking.Given as goal

abbrev pub invariant-loop-i : goal.invariant-loop-i
invariant-loop-i l = lacking l.names (drop l.i l.machines) ≡ lacking l.names l.machines
