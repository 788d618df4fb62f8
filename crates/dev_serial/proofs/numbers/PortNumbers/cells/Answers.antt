use Rattle.dev_serial.proofs.{Facade.◌∙◌, SavedCells.parts_are}
use Rattle.std.proofs.Common.{rules}
use Rattle.dev_serial.proofs.numbers.PortNumbers.cells.Goals as goal

pub returns-clause-cells : goal.returns-clause-cells
returns-clause-cells c = (search rules) ∙ parts_are c.args.set c.args.self.now
