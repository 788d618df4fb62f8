use Rattle.dev_pit.proofs.{Facade.rules, CallLaws.read_keeps}
use Rattle.dev_pit.proofs.pit.Pit.read.Goals as goal

pub returns-clause-keeps : goal.returns-clause-keeps
returns-clause-keeps c = read_keeps c.args.counter c.args.now c.read.new.self _ c.args.self.now (search rules) c.requires.loaded c.read.result c.read.ensures
