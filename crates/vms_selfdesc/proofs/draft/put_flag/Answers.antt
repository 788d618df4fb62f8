use Rattle.vms_selfdesc.proofs.Facade.{read, refl}
use Rattle.vms_selfdesc.proofs.Plain.{puts}
use Rattle.vms_selfdesc.proofs.draft.put_flag.Goals as goal

pub returns : goal.returns
returns c = puts c.requires c.put_key.ensures c.push.ensures c.flag_word.ensures (record { read = refl; numbers = tt })
