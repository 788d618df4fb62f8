use Rattle.vms_values.proofs.Facade.{drop, outlet, Leaves, joined}
use Rattle.vms_values.proofs.lines.write_pieces.Given as goal

abbrev pub invariant-loop-piece : goal.invariant-loop-piece
invariant-loop-piece g l = Leaves (outlet g.K.Sink l.initial.sink) (outlet g.K.Sink l.sink) (joined l.pieces) (joined (drop l.piece-index l.pieces))
