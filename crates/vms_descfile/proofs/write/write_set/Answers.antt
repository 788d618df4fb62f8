use Rattle.vms_descfile.proofs.Facade.{ap, subst, ◌∙◌, described, FitsSet, set_file}
use Rattle.vms_descfile.proofs.FileLaws.{compact_file, file_reads}
use Rattle.serde_json.specs.View.{view}
use Rattle.vms_descfile.proofs.write.write_set.Goals as goal

pub returns-clause-text : goal.returns-clause-text
returns-clause-text c =
    compact_file (described c.args.set.now) (view c.in_ok-value.value) c.in_ok-to_string.field-0 (c.in_ok-value.ensures.file ∙ ap set_file c.parts-parts.ensures)
    c.in_ok-to_string.ensures.text

pub returns-clause-reads_back : goal.returns-clause-reads_back
returns-clause-reads_back c =
    file_reads (described c.args.set.now) (view c.in_ok-value.value) c.in_ok-to_string.field-0 (c.in_ok-value.ensures.file ∙ ap set_file c.parts-parts.ensures)
    c.args.set.now.well_formed (subst FitsSet c.parts-parts.ensures c.in_ok-value.ensures.fits) c.in_ok-to_string.ensures.reads_back
