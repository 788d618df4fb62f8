use Rattle.dev_board.proofs.{Facade.sym, Facade.subst, Facade.IsCalm, Facade.parts_view, SoundLaws.loaded, SoundLaws.calm-turns}
use Rattle.dev_board.proofs.parts.Parts.calm.Goals as goal

pub turns-requires-clause-loaded : goal.turns-requires-clause-loaded
turns-requires-clause-loaded c = loaded (parts_view c.self.inside) c.self.invariant

pub returns : goal.returns
returns c =
    subst (IsCalm c.calm_by.result) c.self.view_is
    (subst (λ until. IsCalm until (parts_view c.self.inside)) (sym c.calm_by.ensures)
    (calm-turns (parts_view c.self.inside) c.self.invariant c.turns.result c.turns.ensures))
