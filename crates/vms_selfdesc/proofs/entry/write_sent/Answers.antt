use Rattle.vms_selfdesc.proofs.{Facade.codes, Facade.refl, Facade.no_members, Plain.further, Plain.same, Plain.entry_adds, Plain.size_text, ReadBack.sent_sound}
use Rattle.vms_selfdesc.proofs.entry.write_sent.Goals as goal

pub returns : goal.returns
returns c =
    let tail = same (further c.put_size.ensures.text c.push-3.ensures) (size_text c.args.size c.args.word.now no_members (codes "}") refl) in
    entry_adds c.requires.path c.begin_entry.ensures (same c.push.ensures c.as_str.ensures) (further c.push-2.ensures tail)
    (sent_sound _ c.args.size c.args.word.now c.put_size.ensures.sound) refl refl
