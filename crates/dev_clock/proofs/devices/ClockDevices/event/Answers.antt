use Rattle.dev_clock.proofs.{Facade.refl, Facade.names_wire, Facade.clock_view, StepLaws.after-event, StepLaws.after-line}
use Rattle.dev_clock.proofs.devices.ClockDevices.event.Goals as goal

pub event-taken-requires : goal.event-taken-requires
unfolding names_wire
event-taken-requires c = record { wire = refl }

pub invariant_of-self : goal.invariant_of-self
invariant_of-self c = after-event (clock_view c.self.inside) c.self.invariant _ c.event-taken.result c.event-taken.new.self c.event-taken.ensures.step

pub returns-clause-sound : goal.returns-clause-sound
returns-clause-sound c =
    after-line (clock_view c.self.inside) c.self.invariant c.line.result c.event-taken.result c.event-taken.new.self c.line.ensures c.event-taken.ensures.step
    c.event-taken.ensures.sound
