use Rattle.vms_convert.proofs.Facade.{◌≡◌, ◌+◌, ◌<◌, suc, length, arith}
use Rattle.vms_convert.proofs.TakeLaws.{put_front}
use Rattle.vms_convert.proofs.recasting.put_cells.Goals as goal

pub loop-cell-preserved : goal.loop-cell-preserved
loop-cell-preserved c =
    let items = c.args.cells.now.items in
    let k = c.loop-cell.cell in
    let next : suc k ≡ k + 1 = omega arith in
    let lt : k < length items = omega (arith, c.loop-cell-test.true, c.len-cell-end.ensures, c.requires.long) in
    rw (c.loop-cell.invariant, put_front items c.args.image.now.numbers k lt c.requires.long, next) at c.put_cell.ensures
