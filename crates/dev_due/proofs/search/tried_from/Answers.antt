use Rattle.dev_due.proofs.Facade.{rules}
use Rattle.dev_due.proofs.DueLaws.{found_from, finds_on, keep_tried}
use Rattle.dev_due.proofs.search.tried_from.Goals as goal

pub returns-clause-finds : goal.returns-clause-finds
returns-clause-finds c =
    finds_on c.tried-first.ensures.finds (finds_on c.tried-first-2.ensures.finds (finds_on c.tried-first-3.ensures.finds c.tried.ensures.finds))

pub returns-clause-tried : goal.returns-clause-tried
returns-clause-tried c =
    keep_tried (finds_on c.tried-first-2.ensures.finds (finds_on c.tried-first-3.ensures.finds c.tried.ensures.finds)) c.tried-first.ensures.tried

pub returns-clause-found : goal.returns-clause-found
returns-clause-found c = search (rules, finds_on, found_from, keep_tried)
