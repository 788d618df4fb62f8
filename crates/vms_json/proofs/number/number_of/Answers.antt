use Rattle.vms_json.proofs.Facade.{rules, ◌≡◌, drop, true, sym, ap, ◌∙◌, arith, take_all, length-drop, scan, number_of, number_from}
use Rattle.vms_json.proofs.number.number_of.Goals as goal

pub returns-then-has_minus : goal.returns-then-has_minus
unfolding number_of
returns-then-has_minus c =
    let s = c.as_bytes-bytes.result.now in
    let parts : c.scan.result ≡ scan (drop 1 s) = c.scan.ensures.parts ∙ ap scan (take_all _ (drop 1 s) (omega (arith, length-drop 1 s))) in
    c.negative.ensures ∙ ap (number_from true) parts ∙ (rw (sym c.if-has_minus.ensures.value)) ∙ ap number_of c.as_bytes-bytes.ensures.value

pub returns-else-has_minus : goal.returns-else-has_minus
unfolding number_of
returns-else-has_minus c = search rules
