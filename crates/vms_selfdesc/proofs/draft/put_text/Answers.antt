use Rattle.vms_selfdesc.proofs.{Plain.further, Plain.puts, Plain.quoted_plain, ReadBack.string_sound}
use Rattle.vms_selfdesc.proofs.draft.put_text.Goals as goal

pub returns : goal.returns
returns c =
    let value = c.args.value.now in
    puts c.requires.key c.put_key.ensures (further c.push.ensures (further c.push-2.ensures c.push-3.ensures)) (quoted_plain value c.requires.value)
    (string_sound value)
