use Rattle.dev_due.proofs.Facade.{arith, devices_of, loaded}
use Rattle.dev_due.proofs.DueLaws.{loaded_later}
use Rattle.dev_due.proofs.boards.Board.turns.Goals as goal

pub turns-requires-clause-loaded : goal.turns-requires-clause-loaded
turns-requires-clause-loaded c = rw (c.pit.ensures, c.devices.ensures.same) (loaded_later _ c.devices.ensures.sound _ c.requires.from)

pub returns-clause-turns : goal.returns-clause-turns
returns-clause-turns c = rw (c.pit.ensures, c.devices.ensures.same) at c.turns.ensures

pub returns-clause-loaded : goal.returns-clause-loaded
returns-clause-loaded c = loaded (devices_of c.args.self) c.devices.ensures.sound.devices 0 (omega arith)
