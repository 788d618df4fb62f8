use Rattle.std.proofs.Common.{refl, sym, true, false, ◌∙◌}
use Rattle.vms_words.proofs.WordLaws.{told, tried_once, no_kind}
use Rattle.vms_words.proofs.kind_named.Goals as goal

pub loop-kind-init : goal.loop-kind-init
loop-kind-init c = refl

pub loop-kind-preserved : goal.loop-kind-preserved
loop-kind-preserved c = c.loop-kind.invariant ∙ tried_once _ _ _ _ _ c.loop-kind-test.true c.kind_word.ensures false (sym c.eq.ensures ∙ c.if-eq.false)

pub returns-then-eq-clause-kind : goal.returns-then-eq-clause-kind
returns-then-eq-clause-kind c = sym (c.loop-kind.invariant ∙ tried_once _ _ _ _ _ c.loop-kind-test.true c.kind_word.ensures true (sym c.eq.ensures ∙ c.if-eq.true))

pub returns-then-eq-clause-right : goal.returns-then-eq-clause-right
returns-then-eq-clause-right c =
    told _ _ (c.loop-kind.invariant ∙ tried_once _ _ _ _ _ c.loop-kind-test.true c.kind_word.ensures true (sym c.eq.ensures ∙ c.if-eq.true))

pub returns-clause-kind : goal.returns-clause-kind
returns-clause-kind c = sym (c.loop-kind.invariant ∙ no_kind _ _ _ c.loop-kind-test.false)

pub returns-clause-right : goal.returns-clause-right
returns-clause-right c = told _ _ (c.loop-kind.invariant ∙ no_kind _ _ _ c.loop-kind-test.false)
