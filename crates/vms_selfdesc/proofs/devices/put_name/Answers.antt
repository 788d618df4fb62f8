use Rattle.vms_selfdesc.proofs.{Facade.codes, Facade.refl, Plain.further, Plain.name_plain}
use Rattle.vms_selfdesc.proofs.devices.put_name.Goals as goal

pub put_natural-requires : goal.put_natural-requires
put_natural-requires c = name_plain (codes "instance_id") refl

pub put_text-requires : goal.put_text-requires
put_text-requires c = record { key = name_plain (codes "name") refl; value = rw c.as_str.ensures c.requires }

pub returns : goal.returns
returns c = record { text = further c.put_natural.ensures.text (rw c.as_str.ensures at c.put_text.ensures).text; sound = c.put_natural.ensures.sound }
