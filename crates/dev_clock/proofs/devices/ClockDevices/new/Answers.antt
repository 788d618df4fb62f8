use Rattle.dev_clock.proofs.{Facade.power_on, StepLaws.on-devices, StepLaws.on-sound}
use Rattle.dev_clock.proofs.devices.ClockDevices.new.Goals as goal

pub invariant_of-result : goal.invariant_of-result
unfolding power_on
invariant_of-result c = rw (c.new.ensures, c.new-2.ensures.state) (on-devices c.args.version c.requires)

pub returns-clause-sound : goal.returns-clause-sound
unfolding power_on
returns-clause-sound c = rw (c.new.ensures, c.new-2.ensures.state) (on-sound c.args.version c.requires)
