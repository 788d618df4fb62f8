use Rattle.vms_desc.proofs.Facade.{rules, described, kinds_at, laid_again, kinds_again}
use Rattle.vms_desc.proofs.set.DescSet.image_bytes.Goals as goal

pub size-requires-clause-laid : goal.size-requires-clause-laid
size-requires-clause-laid c = laid_again (kinds_at (described c.args.self.now) c.args.device) c.spots.result.now c.spots.ensures.spots

pub returns : goal.returns
returns c = search (rules, kinds_again)
