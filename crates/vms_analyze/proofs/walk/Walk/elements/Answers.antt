use Rattle.vms_analyze.proofs.Walks.{all_good}
use Rattle.vms_analyze.proofs.walk.Walk.elements.Goals as goal

pub each-requires-clause-good : goal.each-requires-clause-good
each-requires-clause-good c = all_good c.args.elements.now
