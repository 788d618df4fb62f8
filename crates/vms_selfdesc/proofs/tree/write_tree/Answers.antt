use Rattle.vms_selfdesc.proofs.{Facade.refl, Trees.whole_lays}
use Rattle.vms_selfdesc.proofs.tree.write_tree.Goals as goal

pub returns : goal.returns
returns c = whole_lays c.push.ensures (rw c.requires.first at c.write_devices.ensures) c.push-2.ensures refl
