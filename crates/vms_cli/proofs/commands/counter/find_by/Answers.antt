use Rattle.vms_cli.proofs.Facade.{◌∙◌, IsFit, described, well_of, answer_of}
use Rattle.vms_cli.proofs.TextCommands.{answered}
use Rattle.vms_load.specs.Kept.{loads}
use Rattle.vms_cli.proofs.commands.counter.find_by.Goals as goal

pub returns-clause-ends : goal.returns-clause-ends
returns-clause-ends g c =
    let old = described c.args.old.now in
    let new = loads c.args.new.now in
    let fit : IsFit old = record { well = well_of old c.args.old.now.well_formed; heads = c.args.old.now.heads } in
    let fit' : IsFit new = record { well = well_of new c.args.new.now.lean.set.well_formed; heads = c.args.new.now.lean.set.heads } in
    let ends = rw (c.set.ensures ∙ c.in_ok-finding.ensures.set) at c.write_finding.ensures.ends in
    rw (answered old new fit fit' (answer_of old c.in_ok-finding.finding) c.in_ok-finding.ensures.found) at ends
