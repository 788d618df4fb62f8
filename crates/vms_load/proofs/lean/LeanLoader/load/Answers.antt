use Rattle.vms_load.proofs.{ReadLemmas.err_is, Facade.map, Facade.described, Facade.accepted_of, StreamLengths.well_of}
use Rattle.vms_load.proofs.ExactLoads.{loads_taken, loads_refused, loads_kept}
use Rattle.vms_image.specs.Typed.{state_of as untyped}
use Rattle.vms_load.proofs.lean.LeanLoader.load.Goals as goal

pub returns-in_err-taken-clause-reads : goal.returns-in_err-taken-clause-reads
returns-in_err-taken-clause-reads g c =
    let set = described c.args.self.now.set in
    rw (err_is _ _ c.from_residual.ensures.1)
    (loads_refused set (accepted_of set c.args.only) (well_of set c.args.self.now.set.well_formed) c.args.self.now.set.heads c.stream.new.staged (g.met.S.Source.octets c.stream.new.source)
    (map untyped c.stream.new.staged.images.items) c.args.self.now.taken c.in_err-taken.field-0.0 c.in_err-taken.ensures.reads)

pub returns-clause-reads : goal.returns-clause-reads
returns-clause-reads g c =
    let set = described c.args.self.now.set in
    loads_taken set (accepted_of set c.args.only) (well_of set c.args.self.now.set.well_formed) c.args.self.now.set.heads c.stream.new.staged (g.met.S.Source.octets c.stream.new.source) c.in_ok-taken.taken c.in_ok-taken.ensures.reads

pub returns-clause-whole : goal.returns-clause-whole
returns-clause-whole g c =
    let set = described c.args.self.now.set in
    loads_kept set (accepted_of set c.args.only) (map untyped c.stream.new.staged.images.items) c.in_ok-taken.taken c.stream.new.staged.machine (returns-clause-reads g c)
