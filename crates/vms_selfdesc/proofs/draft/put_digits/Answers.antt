use Rattle.vms_selfdesc.proofs.{Plain.same, ReadBack.natural_sound}
use Rattle.vms_selfdesc.proofs.draft.put_digits.Goals as goal

pub returns : goal.returns
returns c = record { text = same c.push.ensures c.format.ensures.text; sound = natural_sound c.args.number c.ranges.number.fits }
