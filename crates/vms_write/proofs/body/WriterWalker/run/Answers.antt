use Rattle.vms_write.proofs.Facade.{rules, [], refl, puts_none, wrote_as, run_each, CanStep}
use Rattle.vms_write.proofs.Sections.{run_bytes}
use Rattle.vms_write.proofs.body.WriterWalker.run.Goals as goal

pub codes-requires-clause-one : goal.codes-requires-clause-one
codes-requires-clause-one g c =
    let w = c.args.self.now in
    run_each (CanStep w.image.now.kinds) c.args.first c.args.count c.args.kind (λ ys rest x e. c.requires.may [] ys rest x w (refl, refl, puts_none _) e)

pub returns : goal.returns
returns g c = search (rules, run_bytes, wrote_as)
