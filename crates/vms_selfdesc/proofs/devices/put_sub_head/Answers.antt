use Rattle.vms_selfdesc.proofs.{Facade.codes, Facade.refl, Plain.further, Plain.name_plain}
use Rattle.vms_selfdesc.proofs.devices.put_sub_head.Goals as goal

pub put_text-requires : goal.put_text-requires
put_text-requires c = record { key = name_plain (codes "name") refl; value = rw c.as_str.ensures c.requires }

pub put_flag-requires : goal.put_flag-requires
put_flag-requires c = name_plain (codes "sent") refl

pub put_natural-requires : goal.put_natural-requires
put_natural-requires c = name_plain (codes "version") refl

pub returns : goal.returns
returns c =
    let version = c.put_natural.ensures in
    record { text = further (rw c.as_str.ensures at c.put_text.ensures).text (further c.put_flag.ensures.text version.text); sound = version.sound }
