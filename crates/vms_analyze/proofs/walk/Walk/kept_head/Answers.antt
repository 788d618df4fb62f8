use Rattle.vms_analyze.proofs.Walks.{line_goes}
use Rattle.vms_analyze.proofs.walk.Walk.kept_head.Goals as goal

pub returns-clause-ok : goal.returns-clause-ok
returns-clause-ok c = line_goes _ _ _ c.requires c.in_ok-print_kept.ensures.ok
