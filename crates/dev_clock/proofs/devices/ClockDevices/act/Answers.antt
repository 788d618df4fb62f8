use Rattle.dev_clock.proofs.{Facade.clock_view, StepLaws.after-event}
use Rattle.dev_clock.proofs.devices.ClockDevices.act.Goals as goal

pub invariant_of-self : goal.invariant_of-self
invariant_of-self c = after-event (clock_view c.self.inside) c.self.invariant c.args.event c.event.result c.event.new.self c.event.ensures.step
