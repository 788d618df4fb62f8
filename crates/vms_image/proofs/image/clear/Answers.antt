use Rattle.vms_image.proofs.{Facade.arith, Filled.cleared}
use Rattle.vms_image.proofs.image.clear.Goals as goal

pub returns : goal.returns
returns c = cleared _ _ c.loop-sub.sub c.loop-sub.invariant.long (omega (arith, c.len-sub-end.ensures, c.loop-sub-test.false)) c.loop-sub.invariant.none
