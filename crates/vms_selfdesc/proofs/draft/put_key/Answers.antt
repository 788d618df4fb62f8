use Rattle.vms_selfdesc.proofs.Plain.{further}
use Rattle.vms_selfdesc.proofs.draft.put_key.Goals as goal

pub returns : goal.returns
returns c = further c.push.ensures (further c.push-2.ensures c.push-3.ensures)
