use Rattle.dev_pit.proofs.{Facade.rules, CallLaws.asked_keeps}
use Rattle.dev_pit.proofs.pit.Pit.ask_back.Goals as goal

pub returns-clause-keeps : goal.returns-clause-keeps
returns-clause-keeps c = asked_keeps c.args.k c.args.now c.read_back.new.self _ c.args.self.now (search rules) c.requires.loaded _ _ c.read_back.ensures
