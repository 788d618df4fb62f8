use Rattle.vms_board_commands.proofs.Facade.{wrong, stream_course, Loads, scripted, true, None, refl, intake, ending_passed, had_by}
use Rattle.vms_board_commands.proofs.ScriptCommands.{event_view, gives_none, gives_some, loads_under}
use Rattle.vms_board_commands.proofs.RunLemmas.{stream_asks, behind_runs, lacks_runs, seen_given}
use Rattle.vms_board_commands.proofs.load.load_board.Goals as goal

pub returns : goal.returns
returns g c =
    let f = g.M.Machine.family in
    let number = c.args.asked.number in
    let held = g.H.Shelf.held c.args.shelf.now in
    let step = scripted None held c.args.asked.script.now in
    let had = c.in_ok-events.ensures in
    let events = c.in_ok-events.events in
    let loads = rw c.deref.ensures.value at c.load_events.ensures in
    behind_runs stream_course true refl loads.runs had.asks.looks (λ f. absurd (wrong f))
    (λ x has. had_by event_view (loads_under f number (g.I.Source.left c.args.input.now) held) step events x had.read has)
    (gives_some f event_view step events (intake g.I.Source c.args.input.now) (intake g.I.Source c.load_events.new.input) had.read loads.given)
    (λ seen. seen_given {P = (λ lines bytes x. Loads f number lines bytes held x)} event_view step events _ had.read seen)

-- the script isn't available
pub returns-in_err-events : goal.returns-in_err-events
returns-in_err-events g c = rw (ending_passed _ c.from_residual.ensures.1) (
    let f = g.M.Machine.family in
    let held = g.H.Shelf.held c.args.shelf.now in
    let step = scripted None held c.args.asked.script.now in
    let input = intake g.I.Source c.args.input.now in
    let had = c.in_err-events.ensures in
    lacks_runs event_view (loads_under f c.args.asked.number input.left held) step (stream_asks true) (g.met.I.Source.counted c.args.input.now)
    had.asks.looks (λ f. absurd (wrong f)) had.asks.cause had.read (λ x has. has) (gives_none f step input))
