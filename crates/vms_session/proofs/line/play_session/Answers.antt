use Rattle.std.proofs.Common.{rules}
use Rattle.vms_session.proofs.Facade.{session_of, Some, sym, ap, subst, ◌∙◌, isa, saved_stream, Held, PutsUnder, outlet, stock, stores_told, session_view}
use Rattle.vms_session.proofs.Facade.{saved_line, ◌≡◌, List, ℕ, [], ◌∷◌, Err, err_from_is_err_and, LinesEnd, Outlet, Stock, State, Session}
use Rattle.vms_session.proofs.{Facade.ScriptLine, Facade.PlayFault, Facade.part_of, SoundLaws.one_map, SoundLaws.line_ends, SoundLaws.load_keeps}
use Rattle.vms_session.specs.{Parts.stored_by, Streams.SavesUnder}
use Rattle.vms_session.proofs.line.play_session.Goals as goal

-- a save that stored nothing, or only part of a stream
save_stops : (line : ScriptLine) (text : List ℕ) (new : Session) (o : Outlet) (s s' : Stock) (m : State) (name stream : List ℕ) (f : PlayFault)
    → stored_by line ≡ Some name → SavesUnder name stream s s' (Err f) → LinesEnd (part_of line text new ∷ []) new o o s s' m (Err f)
save_stops line text new o s s' m name stream fault e h = search rules

pub returns-in_err-count-in-Save-clause-content : goal.returns-in_err-count-in-Save-clause-content
returns-in_err-count-in-Save-clause-content g c = λ held text new told does.
    let board = c.args.board.now.state in
    let p = err_from_is_err_and c.from_residual.result c.from_residual.ensures.1 in
    let name = ap (λ line. stored_by (session_view line)) c.in-Save.is ∙ ap (λ (n : List ℕ). Some n) (sym c.as_str.ensures.value) in
    rw (p.1, p.2)
    (save_stops (session_view c.args.line.now) text new (outlet g.K.Sink c.args.out.now) (stock g.H.Shelf c.args.shelf.now)
    (stock g.H.Shelf c.save.new.shelf) board c.as_str.result.now (saved_stream isa c.in-Save.set board) c.in_err-count-in-Save.field-0.0 name
    c.in_err-count-in-Save.ensures.saves)

pub returns-in_ok-count-in-Save-clause-content : goal.returns-in_ok-count-in-Save-clause-content
returns-in_ok-count-in-Save-clause-content g c = λ held text new told does.
    let board = c.args.board.now.state in
    let stream = saved_stream isa c.in-Save.set board in
    let done = rw c.in-Save.is at does in
    let saved = c.in_ok-count-in-Save.ensures.saves in
    let stored = stores_told held told saved.1 in
    let under = subst (λ name. PutsUnder held stored.after name stream) c.as_str.ensures.value stored.puts in
    line_ends (session_view c.args.line.now) text c.deref.result.now new (outlet g.K.Sink c.args.out.now) (outlet g.K.Sink c.write.new.out)
    (stock g.H.Shelf c.args.shelf.now) (stock g.H.Shelf c.save.new.shelf)
    board c.write.result (c.deref.ensures.0 ∙ c.saved_mark.ensures ∙ ap saved_line saved.0 ∙ sym done.text_is)
    c.write.ensures (stored.told ∙ ap (λ (h : Held). Some h) (one_map held stored.after new.held c.in-Save.name.bytes stream under done.held))
    (sym done.board)

pub returns-in_ok-mark-in-Restore-clause-content : goal.returns-in_ok-mark-in-Restore-clause-content
returns-in_ok-mark-in-Restore-clause-content g c = λ held text new told does.
    let name = c.in-Restore.name.bytes in
    let done = rw c.in-Restore.is at does in
    let restored = c.in_ok-mark-in-Restore.ensures in
    let loaded = restored.loaded held text new told (rw c.as_str-in-Restore.ensures.value done) in
    line_ends (session_view c.args.line.now) text c.deref-in-Restore.result.now new (outlet g.K.Sink c.args.out.now)
    (outlet g.K.Sink c.write-in-Restore.new.out) (stock g.H.Shelf c.args.shelf.now) (stock g.H.Shelf c.restore.new.shelf)
    c.restore.new.board.state c.write-in-Restore.result (c.deref-in-Restore.ensures.0 ∙ loaded.0) c.write-in-Restore.ensures
    (restored.looks.held ∙ told ∙ ap (λ (h : Held). Some h) (sym (load_keeps (held name) (session_of c.args.board.now.state held) text new done).held)) loaded.1
