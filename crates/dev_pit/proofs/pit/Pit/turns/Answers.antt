use Rattle.dev_pit.proofs.Facade.{rules, get_or_default, powered_on}
use Rattle.dev_pit.proofs.pit.Pit.turns.Goals as goal

pub returns : goal.returns
returns c = rw (get_or_default c.args.self.now.counters c.args.counter _ powered_on (search rules)) at c.turns.ensures
