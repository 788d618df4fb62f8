use Rattle.dev_board.proofs.{Facade.parts_view, Facade.refl, SoundLaws.pair-written, QuickLaws.command-written}
use Rattle.dev_board.proofs.parts.Parts.command.Goals as goal

pub invariant_of-self : goal.invariant_of-self
invariant_of-self c = rw c.command.ensures.state (pair-written (parts_view c.self.inside) c.self.invariant 0x20 c.args.value c.ranges.value.fits refl)

pub returns-clause-state : goal.returns-clause-state
returns-clause-state c = command-written (parts_view c.self.inside) c.args.self.now c.args.value c.self.view_is c.command.new.self c.command.ensures.state

pub returns-clause-kept : goal.returns-clause-kept
returns-clause-kept c = invariant_of-self c
