use Rattle.vms_load.proofs.{Facade.described, HeadLemmas.Reset}
use Rattle.vms_load.proofs.staged.reset.Given as goal

abbrev pub invariant-loop-device : goal.invariant-loop-device
invariant-loop-device l = Reset (described l.set) l.images l.initial.images l.device
