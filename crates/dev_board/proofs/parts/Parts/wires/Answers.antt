use Rattle.dev_board.proofs.{Facade.wires_of, Facade.parts_view, WireLaws.wires_of-are}
use Rattle.dev_board.proofs.parts.Parts.wires.Goals as goal

pub returns-clause-are : goal.returns-clause-are
unfolding wires_of
returns-clause-are c = rw c.lines.ensures (wires_of-are (parts_view c.self.inside))
