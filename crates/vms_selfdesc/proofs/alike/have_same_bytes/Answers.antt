use Rattle.vms_selfdesc.proofs.Facade.{arith, bytes_eq-Decides}
use Rattle.vms_selfdesc.proofs.AlikeLemmas.{numbers_same}
use Rattle.vms_selfdesc.proofs.alike.have_same_bytes.Goals as goal

pub returns : goal.returns
returns c = grind (arith, numbers_same, bytes_eq-Decides)
