use Rattle.vms_values.proofs.Facade.{leaves_rest, leaves_stop}
use Rattle.vms_values.proofs.Printers.{joined_at, err_is}
use Rattle.vms_values.proofs.lines.write_pieces.Goals as goal

pub loop-piece-preserved : goal.loop-piece-preserved
loop-piece-preserved g c = leaves_rest _ (joined_at _ _ _ c.loop-piece-test.true) c.loop-piece.invariant c.in_ok-write_all_of.ensures

pub returns-in_err-write_all_of : goal.returns-in_err-write_all_of
returns-in_err-write_all_of g c =
    rw (err_is _ _ c.from_residual.ensures.1) (leaves_stop _ (joined_at _ _ _ c.loop-piece-test.true) c.loop-piece.invariant c.in_err-write_all_of.ensures)
