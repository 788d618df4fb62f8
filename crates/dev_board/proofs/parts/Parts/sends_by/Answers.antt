use Rattle.dev_board.proofs.Facade.{◌≡◌, Bool, true, false, not, [], refl, subst, still, advanced, acted, after_act, step, waited}
use Rattle.dev_board.proofs.parts.Parts.sends_by.Goals as goal

holds : (b : Bool) → not b ≡ false → b ≡ true
holds true e = refl
holds false e = cc

pub returns-clause-none : goal.returns-clause-none
unfolding step after_act acted waited
returns-clause-none c e =
    let quiet : (advanced c.later_by-to.result c.self.inside.serial).0 ≡ [] = rw (still c.later_by-to.result c.self.inside.serial (c.is_still.ensures.0 (holds c.is_still.result e))) in
    subst (λ to. (advanced to c.args.self.now.serial).0 ≡ []) c.later_by-to.ensures.later
    (subst (λ m. (advanced c.later_by-to.result m.serial).0 ≡ []) c.self.view_is quiet)
