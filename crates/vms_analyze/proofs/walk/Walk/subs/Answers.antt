use Rattle.vms_analyze.proofs.Facade.{list_all-map, is_good_sub, sub_of}
use Rattle.vms_analyze.proofs.walk.Walk.subs.Goals as goal

pub each-requires-clause-good : goal.each-requires-clause-good
each-requires-clause-good c = cc (list_all-map is_good_sub sub_of c.args.subs.now, c.requires.good)
