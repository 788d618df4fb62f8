use Rattle.vms_selfdesc.proofs.Facade.{refl, w128, to_z-of_z, number, of_integer}
use Rattle.vms_selfdesc.proofs.{Plain.further, Plain.same, Plain.entry_adds, Plain.absent_text, ReadBack.absent_sound}
use Rattle.vms_selfdesc.proofs.entry.write_absent.Goals as goal

pub returns : goal.returns
returns c =
    let put = rw (to_z-of_z {w = w128} c.ranges.default) at c.put_integer.ensures in
    let tail = further (same c.push-2.ensures c.absent_tail.ensures) (further put.text c.push-3.ensures) in
    entry_adds c.requires.path c.begin_entry.ensures (same c.push.ensures c.as_str.ensures)
    (same tail (absent_text c.args.kind (number (of_integer c.args.default)))) (absent_sound _ _ _ put.sound) refl refl
