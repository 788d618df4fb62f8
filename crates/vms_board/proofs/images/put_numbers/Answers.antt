use Rattle.vms_board.proofs.{Facade.arith, Imaging.put_all}
use Rattle.vms_board.proofs.images.put_numbers.Goals as goal

pub returns : goal.returns
returns c = put_all c.loop-cell.image c.args.image.now _ _ c.loop-cell.invariant (omega arith)
