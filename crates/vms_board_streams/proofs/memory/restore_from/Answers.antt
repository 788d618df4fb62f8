use Rattle.vms_board_streams.proofs.Facade.{ℕ, List, Ok, Err, ◌∙◌, subst, content, refused_is, Back, Refused, Restores}
use Rattle.vms_board_streams.proofs.memory.restore_from.Goals as goal

pub returns-in-Ok-clause-back : goal.returns-in-Ok-clause-back
returns-in-Ok-clause-back g c =
    let f = g.M.Machine.family in
    let number = f.number c.args.board.now.state in
    let board = c.restore.new.self in
    let said = content f number board (Ok tt) c.in-Ok.ensures.reads in
    subst (λ (l : List ℕ). Restores f number l (Back board.state board.taken)) (c.new-source.ensures.left ∙ c.deref.ensures.value) said.0

pub returns-in-Err-Refused-clause-refused : goal.returns-in-Err-Refused-clause-refused
returns-in-Err-Refused-clause-refused g c =
    let f = g.M.Machine.family in
    let number = f.number c.args.board.now.state in
    let r = c.in-Err-Refused.refusal in
    let said = content f number c.restore.new.self (Err c.in-Err-Refused.field-0) c.in-Err-Refused.ensures.reads in
    subst (λ (l : List ℕ). Restores f number l (Refused r.at r.section r.reason)) (c.new-source.ensures.left ∙ c.deref.ensures.value)
    (refused_is f number _ _ r (rw c.in-Err-Refused.field-0-is at said))
