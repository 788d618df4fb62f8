use Rattle.vms_desc.proofs.{Facade.arith, FormLaws.piece_next}
use Rattle.vms_desc.proofs.forms.append_again.Goals as goal

pub loop-done-preserved : goal.loop-done-preserved
loop-done-preserved g c = search (arith, piece_next)
