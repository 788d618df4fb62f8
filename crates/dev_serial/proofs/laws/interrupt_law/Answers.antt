use Rattle.dev_serial.proofs.RegisterLaws.{identifies_first, line_tells_asking}
use Rattle.dev_serial.proofs.laws.interrupt_law.Goals as goal

pub returns : goal.returns
returns c = record { first = identifies_first; line = line_tells_asking }
