use Rattle.vms_convert.proofs.{Facade.rules, Facade.to_z-of_z, Facade.w128, Facade.described, TakeLaws.default_fits}
use Rattle.vms_convert.proofs.back.put_default.Goals as goal

pub set-requires-clause-range : goal.set-requires-clause-range
set-requires-clause-range c =
    let set = described c.args.set.now in
    rw (to_z-of_z w128 c.default_of.result (search rules), c.default_of.ensures)
    (default_fits set c.args.set.now.well_formed c.args.set.now.heads c.args.device c.requires.device c.args.cell c.requires.cell c.args.image.now.kinds
    c.requires.of.kinds)
