use Rattle.vms_load.proofs.{Facade.described, HeadLemmas.Made}
use Rattle.vms_load.proofs.staged.default_images.Given as goal

abbrev pub invariant-loop-device : goal.invariant-loop-device
invariant-loop-device l = Made (described l.set) l.images.items l.device
