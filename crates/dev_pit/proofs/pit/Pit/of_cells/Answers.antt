use Rattle.dev_pit.proofs.{Facade.arith, SavedLaws.is_channel}
use Rattle.dev_pit.proofs.pit.Pit.of_cells.Goals as goal

pub at-first-requires : goal.at-first-requires
at-first-requires c = is_channel 0 c.args.cells.now.items (omega arith) c.requires.normal

pub at-second-requires : goal.at-second-requires
at-second-requires c = is_channel 1 c.args.cells.now.items (omega arith) c.requires.normal

pub at-third-requires : goal.at-third-requires
at-third-requires c = is_channel 2 c.args.cells.now.items (omega arith) c.requires.normal
