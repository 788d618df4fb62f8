use Rattle.dev_serial.proofs.Facade.{arith, firsts_more}
use Rattle.dev_serial.proofs.stored.Ring.list.Goals as goal

pub loop-i-preserved : goal.loop-i-preserved
loop-i-preserved c = search (arith, firsts_more)
