use Rattle.vms_selfdesc.proofs.{Facade.codes, Facade.refl, Plain.further, Plain.name_plain}
use Rattle.vms_selfdesc.proofs.entry.put_size.Goals as goal

pub put_natural-requires : goal.put_natural-requires
put_natural-requires c = name_plain (codes "size") refl

pub put_text-requires : goal.put_text-requires
put_text-requires c = record { key = name_plain (codes "type") refl; value = c.requires }

pub returns : goal.returns
returns c = record { text = further c.put_natural.ensures.text c.put_text.ensures.text; sound = c.put_natural.ensures.sound }
