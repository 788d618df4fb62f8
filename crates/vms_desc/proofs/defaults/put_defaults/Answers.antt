use Rattle.vms_desc.proofs.{Facade.pos, FormLaws.filled_with, FormLaws.same_held}
use Rattle.vms_desc.proofs.defaults.put_defaults.Goals as goal

pub returns : goal.returns
returns c =
    same_held c.loop-cell.cells c.args.cells.now.kinds c.args.defaults.now c.loop-cell.invariant.same
    (filled_with (pos 0) c.loop-cell.cells.numbers c.args.defaults.now c.loop-cell.cell c.loop-cell.invariant.long c.loop-cell-test.false c.loop-cell.invariant.default)
