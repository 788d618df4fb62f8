use Rattle.vms_values.proofs.Facade.{rules, arith}
use Rattle.vms_values.proofs.JudgeLemmas.{line_fits, read_means, bad_means}
use Rattle.vms_values.proofs.whole.read_values.Goals as goal

pub overflow_cast-result : goal.overflow_cast-result
overflow_cast-result c = search (rules, line_fits)

pub returns-in-Ok-clause-means : goal.returns-in-Ok-clause-means
returns-in-Ok-clause-means c = read_means _ c.args.set.now.well_formed c.args.set.now.heads _ _ c.in-Ok.ensures.read

pub returns-in-Err-Bad-clause-means : goal.returns-in-Err-Bad-clause-means
returns-in-Err-Bad-clause-means c = grind (arith, bad_means)
