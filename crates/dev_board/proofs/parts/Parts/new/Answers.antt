use Rattle.dev_board.proofs.{Facade.power_on, SoundLaws.on-devices, SoundLaws.power_on-sound}
use Rattle.dev_board.proofs.parts.Parts.new.Goals as goal

pub invariant_of-result : goal.invariant_of-result
unfolding power_on
invariant_of-result c = rw (c.new.ensures, c.new-2.ensures.made, c.new-3.ensures.state) (on-devices c.args.level c.requires)

pub returns-clause-sound : goal.returns-clause-sound
unfolding power_on
returns-clause-sound c = rw (c.new.ensures, c.new-2.ensures.made, c.new-3.ensures.state) (power_on-sound c.args.level c.requires)
