use Rattle.dev_due.proofs.Facade.{rules}
use Rattle.dev_due.proofs.DueLaws.{finds_on, keep_found, keep_tried}
use Rattle.dev_due.proofs.search.tried_send.Goals as goal

pub returns-clause-finds : goal.returns-clause-finds
returns-clause-finds c = finds_on c.tried_from-first.ensures.finds c.tried_from.ensures.finds

pub returns-clause-send : goal.returns-clause-send
returns-clause-send c = search (rules, keep_tried, keep_found)
