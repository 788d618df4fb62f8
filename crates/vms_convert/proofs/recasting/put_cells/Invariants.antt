use Rattle.vms_convert.proofs.Facade.{◌≡◌, ◌++◌, take, drop}
use Rattle.vms_convert.proofs.recasting.put_cells.Given as goal

abbrev pub invariant-loop-cell : goal.invariant-loop-cell
invariant-loop-cell l = l.image ≡ record l.fn.image { numbers = take l.cell l.cells.items ++ drop l.cell l.fn.image.numbers }
