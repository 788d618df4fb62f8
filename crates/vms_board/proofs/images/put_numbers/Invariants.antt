use Rattle.vms_board.proofs.Imaging.{Put}
use Rattle.vms_board.proofs.images.put_numbers.Given as goal

abbrev pub invariant-loop-cell : goal.invariant-loop-cell
invariant-loop-cell l = Put l.image l.initial.image l.numbers l.cell
