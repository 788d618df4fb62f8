use Rattle.dev_clock.proofs.{Facade.clock_view, StepLaws.written-has}
use Rattle.dev_clock.proofs.devices.ClockDevices.write_clock.Goals as goal

pub invariant_of-self : goal.invariant_of-self
invariant_of-self c = rw c.write.ensures (written-has c.args.port c.args.value (clock_view c.self.inside) c.ranges.value.fits c.self.invariant)
