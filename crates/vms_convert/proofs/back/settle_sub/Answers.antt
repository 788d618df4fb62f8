use Rattle.vms_convert.proofs.Facade.{arith, described, few_cells}
use Rattle.vms_convert.proofs.back.settle_sub.Goals as goal

pub is_needed-requires-clause-few : goal.is_needed-requires-clause-few
is_needed-requires-clause-few c = omega (arith, few_cells (described c.args.set.now) c.args.set.now.well_formed c.args.device)
