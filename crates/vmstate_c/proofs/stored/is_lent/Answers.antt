use Rattle.std.proofs.Common.{◌∙◌}
use Rattle.vmstate_c.proofs.{StoredFiles.lent-same, StoredFiles.lent-other, stored.is_lent.Goals.then-eq, stored.is_lent.Goals.else-eq}
use Rattle.vmstate_c.proofs.stored.is_lent.Goals as goal

pub loop-file-preserved : goal.loop-file-preserved
loop-file-preserved c =
    let i = c.loop-file.file-index in
    let name = c.args.name.now in
    let text = c.as_bytes.result.now in
    let lt = c.loop-file-test.true in
    elim c.if-eq.branch [
      | then-eq w ↦ lent-same c.args.files.now i _ name c.args.bytes.now text lt c.utf8.name c.eq.result c.if-eq.is_same
          c.as_bytes.ensures.value c.eq.ensures w.if-eq.true (w.is_same-is ∙ w.eq-is_same.ensures)
      | else-eq w ↦ lent-other c.args.files.now i _ name c.args.bytes.now text lt c.utf8.name c.eq.result c.if-eq.is_same
          c.as_bytes.ensures.value c.eq.ensures w.if-eq.false (w.is_same-is ∙ c.loop-file.invariant)
    ]
