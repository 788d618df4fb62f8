use Rattle.vms_selfdesc.proofs.Facade.{◌∙◌, length, map, string_bytes, ap, arith, IfOk-weaker, described, state_of}
use Rattle.vms_selfdesc.proofs.{Lengths.text_reads, Lengths.text_short, Plain.wrote}
use Rattle.vms_selfdesc.proofs.tree.describe.Goals as goal

pub returns-clause-text : goal.returns-clause-text
returns-clause-text c =
    IfOk-weaker c.finish.result _ _ (λ s h. ap string_bytes h.1 ∙ wrote c.in_ok-draft.ensures.text c.write_tree.ensures.text h.0) c.finish.ensures

pub returns-clause-reads : goal.returns-clause-reads
returns-clause-reads c =
    let set = described c.args.set.now in
    IfOk-weaker c.finish.result _ _ (λ s text. text_reads set (map state_of c.args.images.now) c.write_tree.ensures.sound (string_bytes s) text)
    (returns-clause-text c)

pub returns-clause-short : goal.returns-clause-short
returns-clause-short c =
    let set = c.args.set.now in
    let short = text_short _ (map state_of c.args.images.now) set.well_formed set.heads in
    IfOk-weaker c.finish.result _ _ (λ s text. omega (arith, ap length text)) (returns-clause-text c)
