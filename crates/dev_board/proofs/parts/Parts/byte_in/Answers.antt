use Rattle.dev_board.proofs.{Facade.parts_view, SoundLaws.byte-kept}
use Rattle.dev_board.proofs.parts.Parts.byte_in.Goals as goal

pub invariant_of-self : goal.invariant_of-self
invariant_of-self c = rw c.byte_in.ensures.state (byte-kept (parts_view c.self.inside) c.self.invariant c.args.value c.ranges.value.fits)
