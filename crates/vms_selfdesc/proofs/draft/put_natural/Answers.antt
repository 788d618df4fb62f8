use Rattle.vms_selfdesc.proofs.{Facade.refl, Plain.puts}
use Rattle.vms_selfdesc.proofs.draft.put_natural.Goals as goal

pub returns : goal.returns
returns c = puts c.requires c.put_key.ensures c.put_digits.ensures.text refl c.put_digits.ensures.sound
