use Rattle.std.proofs.Common.{rules}
use Rattle.vms_rules.proofs.WalkLaws.{least_fits}
use Rattle.vms_rules.proofs.fields.counts_well.Goals as goal

pub returns : goal.returns
returns c = search (rules, least_fits)
