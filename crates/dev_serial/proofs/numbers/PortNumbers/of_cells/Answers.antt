use Rattle.dev_serial.proofs.Facade.{arith, RX_COUNT, TX_COUNT, TIMEOUT_AT, RX_DATA, TX_DATA}
use Rattle.dev_serial.proofs.SavedLaws.{in_arrays, in_rings}
use Rattle.dev_serial.proofs.numbers.PortNumbers.of_cells.Goals as goal

pub at-requires-clause-in_range : goal.at-requires-clause-in_range
at-requires-clause-in_range c = in_arrays c.args.cells.now.items RX_COUNT 17 c.requires.of_kinds (omega arith) (omega arith)

pub at-requires-2-clause-in_range : goal.at-requires-2-clause-in_range
at-requires-2-clause-in_range c = in_arrays c.args.cells.now.items TX_COUNT 17 c.requires.of_kinds (omega arith) (omega arith)

pub moment_at-requires-2-clause-in_range : goal.moment_at-requires-2-clause-in_range
moment_at-requires-2-clause-in_range c = c.requires.of_kinds.in_range TIMEOUT_AT (omega arith)

pub at-requires-3-clause-in_range : goal.at-requires-3-clause-in_range
at-requires-3-clause-in_range c = in_rings c.args.cells.now.items RX_DATA 18 c.requires.of_kinds (omega arith) (omega arith)

pub at-requires-4-clause-in_range : goal.at-requires-4-clause-in_range
at-requires-4-clause-in_range c = in_rings c.args.cells.now.items TX_DATA 18 c.requires.of_kinds (omega arith) (omega arith)
