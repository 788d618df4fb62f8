use Rattle.vms_descfile.proofs.{Facade.view, WalkLaws.asked_is, WalkLaws.first_is, WalkLaws.later_is}
use Rattle.vms_descfile.proofs.read.parts.read_parts.Goals as goal

pub returns-in-Ok : goal.returns-in-Ok
returns-in-Ok c = asked_is (view c.args.value.now) _ c.in-Ok.ensures

pub returns-in-Ok-read_walk : goal.returns-in-Ok-read_walk
returns-in-Ok-read_walk c = later_is _ _ _ c.in-Ok-read_walk.ensures c.in-Err.ensures

pub returns-in-Err-read_walk : goal.returns-in-Err-read_walk
returns-in-Err-read_walk c = first_is (view c.args.value.now) c.in-Err-read_walk.first c.in-Err-read_walk.ensures
