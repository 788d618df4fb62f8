use Rattle.dev_pic.proofs.WinnerLaws.{wins, loses}
use Rattle.dev_pic.proofs.winner.first_ready.Goals as goal

pub returns-then-requested-first_place-clause-winner :
    goal.returns-then-requested-first_place-clause-winner
returns-then-requested-first_place-clause-winner c =
    let a = c.args in
    rw (c.input_at.ensures) (wins a.lowest a.requests a.served _ _ c.first_place-requested.ensures c.first_place.ensures c.if-requested-first_place.true)

pub returns-else-requested-first_place-clause-winner :
    goal.returns-else-requested-first_place-clause-winner
returns-else-requested-first_place-clause-winner c =
    let a = c.args in
    loses a.lowest a.requests a.served _ _ c.first_place-requested.ensures c.first_place.ensures c.if-requested-first_place.false
