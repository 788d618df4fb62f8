use Rattle.dev_due.proofs.DueLaws.{all_found, finds_on, keep_at, keep_found, keep_sends}
use Rattle.dev_due.proofs.search.first_shown.Goals as goal

pub returns-clause-shown : goal.returns-clause-shown
returns-clause-shown c =
    c.tried_at.ensures.finds.shown (c.tried_sends-first.ensures.finds.shown (c.tried_at-first.ensures.finds.shown (c.tried_from-first.ensures.finds.shown tt)))

pub returns-clause-first : goal.returns-clause-first
returns-clause-first c =
    let last = c.tried_at.ensures.finds in
    let second = finds_on c.tried_sends-first.ensures.finds last in
    all_found c.args.board c.tried_at.result c.devices-devices.ensures.sound
    (rw (c.now.ensures.moment, c.devices-devices.ensures.same) at (keep_found (finds_on c.tried_at-first.ensures.finds second) c.tried_from-first.ensures.found))
    (rw (c.timeout.ensures) at (keep_at second c.timeout.result c.tried_at-first.ensures.found))
    (rw (c.shift.ensures.shift) at (keep_sends last c.shift.result c.tried_sends-first.ensures.sends))
    c.next_end.result c.next_end.ensures c.tried_at.ensures.found
