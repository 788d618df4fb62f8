use Rattle.std.proofs.Common.{arith, ap, ◌∙◌, ◌≡◌, get_or}
use Rattle.vms_marks.specs.Heads.{head_bytes}
use Rattle.vms_marks.proofs.HeadLemmas.{spells}
use Rattle.vms_marks.proofs.head.Head.read.Goals.{else-bytes-lt1-via-then-bytes-lt1, else-bytes-lt1-via-in-len1-up+else-mark-byte}
use Rattle.vms_marks.proofs.head.Head.read.Goals as goal

pub returns-2-clause-spelled : goal.returns-2-clause-spelled
returns-2-clause-spelled c =
    let mark : get_or c.args.bytes.now 0 0 ≡ 4 = elim c.else-bytes-lt1.branch [
      | else-bytes-lt1-via-then-bytes-lt1 w ↦ grind (arith, c.if-bytes-lt-HEAD_FRONT.false)
      | else-bytes-lt1-via-in-len1-up+else-mark-byte w ↦ grind (arith, w.if-mark-byte.false, w.byte.ensures)
    ] in
    ap head_bytes c.of.ensures ∙ spells c.args.bytes.now (λ i. omega (arith, c.type_inv.bytes i)) mark (omega (arith, c.if-bytes.false))
