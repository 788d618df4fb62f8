use Rattle.dev_due.proofs.Facade.{devices_of}
use Rattle.dev_due.proofs.DueLaws.{soon}
use Rattle.dev_due.proofs.boards.Board.shift.Goals as goal

pub returns-clause-soon : goal.returns-clause-soon
returns-clause-soon c =
    rw (c.shift.ensures, c.serial.ensures, c.devices-devices.ensures.same) (soon (devices_of c.args.self) c.devices-devices.ensures.sound)
