use Rattle.dev_pic.proofs.WinnerLaws.{is_highest, has_none}
use Rattle.dev_pic.proofs.winner.highest.Goals as goal

pub returns-then-first-lt8-clause-highest : goal.returns-then-first-lt8-clause-highest
returns-then-first-lt8-clause-highest c = cc (c.input_at.ensures, is_highest c.args.lowest c.args.inputs _ c.first_place-first.ensures c.if-first-lt8.true)

pub returns-else-first-lt8-clause-highest : goal.returns-else-first-lt8-clause-highest
returns-else-first-lt8-clause-highest c = has_none c.args.lowest c.args.inputs _ c.first_place-first.ensures c.if-first-lt8.false
