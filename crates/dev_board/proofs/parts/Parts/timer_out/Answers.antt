use Rattle.dev_board.proofs.{Facade.parts_view, SoundLaws.loaded}
use Rattle.dev_board.proofs.parts.Parts.timer_out.Goals as goal

pub out-requires-clause-loaded : goal.out-requires-clause-loaded
out-requires-clause-loaded c = loaded (parts_view c.self.inside) c.self.invariant
