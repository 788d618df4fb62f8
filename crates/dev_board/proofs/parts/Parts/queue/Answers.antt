use Rattle.dev_board.proofs.{Facade.parts_view, QuickLaws.queue-written, QuickLaws.queue-devices}
use Rattle.dev_board.proofs.parts.Parts.queue.Goals as goal

pub invariant_of-self : goal.invariant_of-self
invariant_of-self c =
    queue-devices (parts_view c.self.inside) c.self.invariant c.args.value c.ranges.value.fits c.queue.new.self c.queue.result
    c.queue.ensures.queued c.queue.ensures.stays

pub returns-clause-queued : goal.returns-clause-queued
returns-clause-queued c is =
    queue-written (parts_view c.self.inside) c.args.self.now c.args.value c.self.view_is c.queue.new.self (c.queue.ensures.queued is (parts_view
    c.self.inside).moment)

pub returns-clause-kept : goal.returns-clause-kept
returns-clause-kept c = invariant_of-self c
