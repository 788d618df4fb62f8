use Rattle.dev_due.proofs.Facade.{rules, ◌≡◌, None, Isa}
use Rattle.dev_due.proofs.DueLaws.{none_due, some_due}
use Rattle.dev_due.proofs.waits.due.Goals as goal

pub returns-in_err-at : goal.returns-in_err-at
returns-in_err-at c =
    let none : c.from_residual.result ≡ None = search rules in
    rw none (none_due (Isa c.args.devices) c.in_err-at.ensures.moment c.in_err-at.ensures.first)

pub returns : goal.returns
returns c = rw c.now.ensures.moment (some_due _ _ c.in_ok-at.ensures.moment c.in_ok-at.ensures.shown c.in_ok-at.ensures.first)
