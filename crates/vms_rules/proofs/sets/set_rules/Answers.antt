use Rattle.std.proofs.Common.{rules}
use Rattle.vms_rules.proofs.WalkLaws.{distinct_is, empty_has_none}
use Rattle.vms_rules.proofs.sets.set_rules.Goals as goal

pub returns : goal.returns
returns c = search (rules, distinct_is, empty_has_none)
