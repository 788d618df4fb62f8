use Rattle.vms_json.proofs.Facade.{rules, arith}
use Rattle.vms_json.proofs.node.Items.count.Goals as goal

pub loop-item-init : goal.loop-item-init
loop-item-init c = (omega arith, omega arith)

pub loop-item-preserved : goal.loop-item-preserved
loop-item-preserved c = search rules

pub returns : goal.returns
returns c = grind arith
