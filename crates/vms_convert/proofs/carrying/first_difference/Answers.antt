use Rattle.vms_convert.proofs.Facade.{pos, arith, ext_get_or}
use Rattle.vms_convert.proofs.carrying.first_difference.Goals as goal

pub returns : goal.returns
returns c = ext_get_or (pos 0) c.args.wanted.now.numbers c.args.there.now.numbers c.requires (λ i lt. c.loop-cell.invariant i (omega arith))
