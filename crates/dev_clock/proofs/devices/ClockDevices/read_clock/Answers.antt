use Rattle.dev_clock.proofs.{Facade.clock_view, StepLaws.after-read}
use Rattle.dev_clock.proofs.devices.ClockDevices.read_clock.Goals as goal

pub invariant_of-self : goal.invariant_of-self
invariant_of-self c = after-read (clock_view c.self.inside) c.self.invariant c.args.port c.read.result c.read.new.self c.read.ensures
