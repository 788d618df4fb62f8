use Rattle.dev_due.proofs.Facade.{rules, arith}
use Rattle.dev_due.proofs.DueLaws.{finds_on, finds_same, next_sends}
use Rattle.dev_due.proofs.search.tried_sends.Goals as goal

pub loop-init : goal.loop-init
loop-init c = search (rules, finds_same)

pub loop-preserved : goal.loop-preserved
loop-preserved c = search (rules, finds_on, next_sends)

pub tried_send-first-requires : goal.tried_send-first-requires
tried_send-first-requires c = omega (arith, rw (c.in-Some.is) at c.requires)

pub overflow_add-sent : goal.overflow_add-sent
overflow_add-sent c = omega (arith, rw (c.in-Some.is) at c.requires)

pub returns-clause-finds : goal.returns-clause-finds
returns-clause-finds c = c.loop.invariant.finds

pub returns-clause-sends : goal.returns-clause-sends
returns-clause-sends c = rw (c.in-Some.is) (λ k few. c.loop.invariant.sends k (omega arith))
