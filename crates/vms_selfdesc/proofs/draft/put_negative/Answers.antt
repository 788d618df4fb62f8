use Rattle.vms_selfdesc.proofs.Facade.{arith}
use Rattle.vms_selfdesc.proofs.ReadBack.{negative_sound}
use Rattle.vms_selfdesc.proofs.draft.put_negative.Goals as goal

pub returns : goal.returns
returns c = search (arith, negative_sound)
