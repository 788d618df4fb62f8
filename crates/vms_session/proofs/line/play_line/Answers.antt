use Rattle.std.proofs.Common.{rules}
use Rattle.vms_session.proofs.Facade.{Session, Some, sym, ap, ◌∙◌, clock_goes_on, names, outlet, stock, trace_line, line_view}
use Rattle.vms_session.proofs.SoundLaws.{line_ends, event_is, line_event}
use Rattle.vms_session.proofs.line.play_line.Goals as goal

pub event-requires : goal.event-requires
event-requires g c = search (rules, names, event_is, line_event)

pub returns-in-Event-clause-level : goal.returns-in-Event-clause-level
returns-in-Event-clause-level g c = ap (λ d. d.1.level) c.event.ensures.step ∙ clock_goes_on.level c.in-Event.event c.args.board.now.state

pub returns-in-Event-clause-content : goal.returns-in-Event-clause-content
returns-in-Event-clause-content g c = λ held text new told does.
    let done = rw c.in-Event.is at does in
    let step = c.event.ensures.step in
    line_ends (line_view c.args.line.now) text (trace_line c.event.result) new (outlet g.K.Sink c.args.out.now) (outlet g.K.Sink c.write_answer.new.out)
    (stock g.H.Shelf c.args.shelf.now) (stock g.H.Shelf c.args.shelf.now) c.event.new.self.state c.write_answer.result
    (ap (λ d. trace_line d.0) step ∙ sym done.text_is) c.write_answer.ensures (told ∙ ap (λ (s : Session). Some s.held) (sym done.new_is))
    (ap (λ d. d.1) step ∙ ap (λ s. s.board) (sym done.new_is))
