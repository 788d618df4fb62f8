use Rattle.dev_board.proofs.{Facade.◌≤◌, Facade.sym, Facade.subst, Facade.parts_view, SoundLaws.after-wait, SoundLaws.loaded}
use Rattle.dev_board.proofs.parts.Parts.wait.Goals as goal

pub edge-edge-requires-clause-loaded : goal.edge-edge-requires-clause-loaded
edge-edge-requires-clause-loaded c = loaded (parts_view c.self.inside) c.self.invariant

pub invariant_of-self : goal.invariant_of-self
invariant_of-self c =
    let later : c.self.inside.moment ≤ c.args.to = subst (λ s. s.moment ≤ c.args.to) (sym c.self.view_is) c.requires.later in
    after-wait (parts_view c.self.inside) c.self.invariant c.args.to c.advance-sent.result.items c.advance-sent.new.self later c.requires.last
    c.advance-sent.ensures.state
