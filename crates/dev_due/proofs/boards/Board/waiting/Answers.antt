use Rattle.dev_due.proofs.Facade.{devices_of}
use Rattle.dev_due.proofs.DueLaws.{few}
use Rattle.dev_due.proofs.boards.Board.waiting.Goals as goal

pub returns-clause-few : goal.returns-clause-few
returns-clause-few c =
    rw (c.waiting.ensures, c.serial.ensures, c.devices-devices.ensures.same) (few (devices_of c.args.self) c.devices-devices.ensures.sound)
