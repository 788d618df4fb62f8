use Rattle.vms_write.proofs.{Facade.rules, Facade.arith, Sections.default_in}
use Rattle.vms_write.proofs.fine.is_default.Goals as goal

pub get-requires-2 : goal.get-requires-2
get-requires-2 c = (default_in c.args.defaults.now.kinds c.args.defaults.now.numbers c.args.cell (omega arith)).0

pub returns : goal.returns
returns c = search (rules, ((default_in c.args.defaults.now.kinds c.args.defaults.now.numbers c.args.cell (omega arith)).1))
