use Rattle.vms_json.proofs.Facade.{arith, refl, no_members}
use Rattle.vms_json.proofs.LaidLaws.{put_found}
use Rattle.vms_json.proofs.node.find.Goals as goal

pub loop-name-init : goal.loop-name-init
loop-name-init c = (no_members, refl, refl)

pub loop-name-preserved-then-is_key : goal.loop-name-preserved-then-is_key
loop-name-preserved-then-is_key c = grind (arith, put_found)

pub loop-name-preserved : goal.loop-name-preserved
loop-name-preserved c = grind (arith, put_found)
