use Rattle.vms_board.proofs.{Facade.described, Imaging.Refilled}
use Rattle.vms_board.proofs.images.refill.Given as goal

abbrev pub invariant-loop-device : goal.invariant-loop-device
invariant-loop-device g l = Refilled (described l.set) (g.M.Machine.family.lists l.number l.machine) l.images l.initial.images l.device
