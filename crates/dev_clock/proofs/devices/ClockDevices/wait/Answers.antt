use Rattle.dev_clock.proofs.{Facade.refl, Facade.names_wire, Facade.clock_view, StepLaws.after-wait}
use Rattle.dev_clock.proofs.devices.ClockDevices.wait.Goals as goal

pub event-answer-requires : goal.event-answer-requires
unfolding names_wire
event-answer-requires c = record { wire = refl }

pub invariant_of-self : goal.invariant_of-self
invariant_of-self c = after-wait (clock_view c.self.inside) c.self.invariant c.args.ns _ _ c.event-answer.result c.event-answer.new.self c.passed.new.self c.event-answer.ensures.step c.passed.ensures
