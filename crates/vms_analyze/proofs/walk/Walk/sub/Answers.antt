use Rattle.vms_analyze.proofs.Facade.{arith}
use Rattle.vms_analyze.proofs.Walks.{elements_are, walks_then}
use Rattle.vms_analyze.proofs.walk.Walk.sub.Goals as goal

pub returns : goal.returns
returns c = grind (arith, elements_are, walks_then)
