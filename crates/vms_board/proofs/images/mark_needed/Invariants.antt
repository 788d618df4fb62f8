use Rattle.vms_board.proofs.{Facade.described, Facade.device_at, Imaging.Marked}
use Rattle.vms_board.proofs.images.mark_needed.Given as goal

abbrev pub invariant-loop-sub : goal.invariant-loop-sub
invariant-loop-sub l = Marked (described l.set) (device_at (described l.set) l.device) l.image l.initial.image l.sub
