use Rattle.vms_values.proofs.Facade.{◌≡◌, drop, bytes_eq, joined}
use Rattle.vms_values.proofs.text.is_joined.Given as goal

abbrev pub invariant-loop-piece : goal.invariant-loop-piece
invariant-loop-piece l = bytes_eq l.rest (joined (drop l.piece-index l.pieces)) ≡ bytes_eq l.line (joined l.pieces)
