use Rattle.vms_session.proofs.Facade.{ap, ◌∙◌, sym, Set, refused_line, restored_line, session_of, Back, Refused}
use Rattle.vms_session.proofs.SoundLaws.{comes}
use Rattle.vms_session.proofs.shelf.load.Goals as goal

pub returns-in-Ok-clause-text : goal.returns-in-Ok-clause-text
returns-in-Ok-clause-text c = λ held text new loads.
    c.restored_mark.ensures ∙ ap restored_line c.taken.ensures
    ∙ sym (comes c.args.stream.items (session_of c.args.board.now.state held) text new (Back c.restore_from.new.board.state c.restore_from.new.board.taken)
    c.in-Ok.ensures.octets c.requires c.in-Ok.ensures.back loads).text_is

pub returns-in-Ok-clause-board : goal.returns-in-Ok-clause-board
returns-in-Ok-clause-board c = λ held text new loads.
    ap (λ s. s.board)
    (sym (comes c.args.stream.items (session_of c.args.board.now.state held) text new (Back c.restore_from.new.board.state c.restore_from.new.board.taken)
    c.in-Ok.ensures.octets c.requires c.in-Ok.ensures.back loads).new_is)

pub returns-in-Err-clause-text : goal.returns-in-Err-clause-text
returns-in-Err-clause-text c = λ held text new loads.
    c.refused_mark.ensures ∙ ap (λ (s : Set). refused_line s c.in-Err.refusal.at c.in-Err.refusal.section c.in-Err.refusal.reason) c.set.ensures
    ∙ sym (comes c.args.stream.items (session_of c.args.board.now.state held) text new
    (Refused c.in-Err.refusal.at c.in-Err.refusal.section c.in-Err.refusal.reason)
    c.in-Err.ensures.octets c.requires c.in-Err.ensures.refused loads).text_is

pub returns-in-Err-clause-board : goal.returns-in-Err-clause-board
returns-in-Err-clause-board c = λ held text new loads.
    ap (λ b. b.state) c.in-Err.ensures.same ∙ ap (λ s. s.board)
    (sym (comes c.args.stream.items (session_of c.args.board.now.state held) text new
    (Refused c.in-Err.refusal.at c.in-Err.refusal.section c.in-Err.refusal.reason)
    c.in-Err.ensures.octets c.requires c.in-Err.ensures.refused loads).new_is)
