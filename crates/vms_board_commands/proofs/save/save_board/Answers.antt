use Rattle.vms_board_commands.proofs.Facade.{ScriptLine, so_since, wrong, Family, List, ℕ, None, refl, sym, ◌∙◌, saved_stream, after_events, stock}
use Rattle.vms_board_commands.proofs.Facade.{ending_passed, Step, Gives, events_back, events_of, scripted}
use Rattle.vms_board_commands.proofs.{ScriptCommands.event_view, RunLemmas.save_asks, RunLemmas.lacks_text, RunLemmas.then_runs}
use Rattle.vms_board_commands.proofs.save.save_board.Goals as goal

-- the stream of the board after a script
abbrev stream_after : {S : Type 0} → Family S → (number set : ℕ) → List ScriptLine → Step (List ℕ)
stream_after f number set lines = Gives (saved_stream f set (after_events f (events_of lines) (f.power_on number)))

pub returns : goal.returns
returns g c = λ input few.
    let asked = c.args.asked in
    let had = c.in_ok-events.ensures in
    let events = c.in_ok-events.events in
    then_runs event_view (stream_after g.M.Machine.family asked.number asked.set) (scripted None (g.H.Shelf.held c.args.shelf.now) asked.script.now) events few
    had.asks.looks.held had.read (rw (c.deref.ensures.value ∙ sym (events_back events.items)) at c.save_after.ensures.ends)
    (so_since _ refl had.asks.looks (c.save_after.ensures.so input (stock g.H.Shelf c.events_of.new.shelf))) (refl, refl) (λ x has. has)

pub returns-in_err-events : goal.returns-in_err-events
returns-in_err-events g c = rw (ending_passed _ c.from_residual.ensures.1) (λ input few.
    let asked = c.args.asked in
    let had = c.in_err-events.ensures in
    lacks_text event_view (stream_after g.M.Machine.family asked.number asked.set) (scripted None (g.H.Shelf.held c.args.shelf.now) asked.script.now)
    save_asks few had.asks.looks (λ f. absurd (wrong f)) had.asks.cause had.read (λ x has. has))
