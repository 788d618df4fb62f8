use Rattle.vms_io.proofs.{Facade.rules, Ahead.still_ahead}
use Rattle.vms_io.proofs.standard.StdSource.stage.Goals as goal

pub returns-then-is_empty-clause-left : goal.returns-then-is_empty-clause-left
returns-then-is_empty-clause-left g c = search (rules, still_ahead)

pub returns-else-is_empty-clause-left : goal.returns-else-is_empty-clause-left
returns-else-is_empty-clause-left g c = search (rules, still_ahead)
