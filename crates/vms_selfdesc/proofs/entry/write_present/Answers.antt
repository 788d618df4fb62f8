use Rattle.vms_selfdesc.proofs.Facade.{refl, ◌∙◌, arith, width, width_small}
use Rattle.vms_selfdesc.proofs.{Plain.same, Plain.entry_adds, Plain.tail_text, ReadBack.natural_sound, ReadBack.sent_sound}
use Rattle.vms_selfdesc.proofs.entry.write_present.Goals as goal

pub returns : goal.returns
returns c =
    entry_adds c.requires c.begin_entry.ensures (same c.push.ensures c.as_str.ensures) (same c.push-2.ensures (c.cell_tail.ensures ∙ tail_text c.args.kind))
    (sent_sound _ _ _ (natural_sound (width c.args.kind) (omega (arith, width_small c.args.kind)))) refl refl
