use Rattle.vms_analyze.proofs.Facade.{rules, length-take, take, arith}
use Rattle.vms_analyze.proofs.input.read_piece.Goals as goal

pub returns-in-Ok-extend_from_slice : goal.returns-in-Ok-extend_from_slice
returns-in-Ok-extend_from_slice g c = search rules

pub returns-in-Err-extend_from_slice : goal.returns-in-Err-extend_from_slice
returns-in-Err-extend_from_slice g c =
    let piece = c.read_exact_of.new.buf in
    record { bytes = take c.in-Ok.count piece; takes = c.in-Ok.ensures.takes; few = omega (arith, length-take c.in-Ok.count piece) }
