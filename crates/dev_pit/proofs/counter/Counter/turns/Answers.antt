use Rattle.dev_pit.proofs.Marks.{stays_unloaded, turns_loaded}
use Rattle.dev_pit.proofs.counter.Counter.turns.Goals as goal

pub returns-in_default : goal.returns-in_default
returns-in_default c = stays_unloaded _ c.args.self.now c.args.base c.in_default.is

pub returns : goal.returns
returns c =
    rw (c.moment_of.ensures, c.moment_of-2.ensures, c.moment_of-3.ensures, c.marks_of-marks.ensures.marks, c.period.ensures.period, c.ticks.ensures.ticks)
    (turns_loaded c.in-Some.load c.args.self.now c.args.base c.in-Some.is)
