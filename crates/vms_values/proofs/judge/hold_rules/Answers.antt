use Rattle.vms_values.proofs.Facade.{◌≡◌, map, ap, sym, ◌∙◌, described, desc_of}
use Rattle.vms_values.proofs.JudgeLemmas.{own_rules}
use Rattle.vms_values.proofs.judge.hold_rules.Goals as goal

pub returns-then-are_unruled : goal.returns-then-are_unruled
returns-then-are_unruled c =
    let set = described c.args.set.now in
    let ds = c.as_slice.result.now in
    let same : map desc_of ds ≡ set.structs = ap (map desc_of) c.as_slice.ensures ∙ ap (λ s. s.structs) c.parts.ensures in
    c.holds_rules.ensures ∙ own_rules set ds c.args.spot c.args.image.now.numbers same (sym c.are_unruled.ensures ∙ c.if-are_unruled.true)
