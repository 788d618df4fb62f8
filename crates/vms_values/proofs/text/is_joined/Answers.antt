use Rattle.vms_values.proofs.{Facade.refl, Facade.sym, Facade.◌∙◌, Facade.true, Facade.false, Printers.joined_at, ReadLemmas.joined_next}
use Rattle.vms_values.proofs.text.is_joined.Goals as goal

pub returns-in-None : goal.returns-in-None
returns-in-None c =
    sym (joined_next _ _ _ _ _ false (joined_at _ _ _ c.loop-piece-test.true) c.in-None.ensures.cases refl) ∙ c.loop-piece.invariant

pub loop-piece-preserved : goal.loop-piece-preserved
loop-piece-preserved c =
    sym (joined_next _ _ _ _ _ true (joined_at _ _ _ c.loop-piece-test.true)
    c.in-Some.ensures.cases.0 c.in-Some.ensures.cases.1) ∙ c.loop-piece.invariant
