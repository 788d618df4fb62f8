use Rattle.vms_board_commands.proofs.{ScriptCommands.script_view, ScriptCommands.ends_since, RunLemmas.play_asks, RunLemmas.lacks_runs}
use Rattle.vms_board_commands.proofs.Facade.{ℕ, List, Option, Some, refl, IsSomeAnd, Held, outlet, stock, ending_passed, had_by, Outcome, ScriptLine}
use Rattle.vms_board_commands.proofs.Facade.{scripted, so_since, wrong, PlaysAll, ending_of}
use Rattle.vms_board_commands.proofs.play.play_board.Goals as goal

-- the outcome once the script has been read
abbrev all_played : ℕ → Option Held → List ScriptLine → Outcome → Type 0
all_played level held lines x = IsSomeAnd held (λ map. PlaysAll level lines map x)

pub returns : goal.returns
returns g c = λ input few.
    let held = g.H.Shelf.held c.args.shelf.now in
    let level = c.args.asked.number in
    let shelf = stock g.H.Shelf c.args.shelf.now in
    let had = c.in_ok-lines.ensures in
    let e = ending_of c.play_lines.result in
    let played = c.play_lines.ensures input few in
    record {
      content = λ o has.
          let plays = had_by script_view (all_played level held) _ _ o had.read has in
          ends_since input input (outlet g.O.Sink c.args.out.now) (outlet g.O.Sink c.play_lines.new.out) shelf (stock g.H.Shelf c.session_of.new.shelf) (stock g.H.Shelf c.play_lines.new.shelf) had.asks.looks.held had.asks.looks.later o e
          (played.content o (rw had.asks.looks.held (rw c.deref.ensures.value plays)));
      so = so_since e refl had.asks.looks played.so;
      given = tt;
      seen = λ reads. cc;
    }

pub returns-in_err-lines : goal.returns-in_err-lines
returns-in_err-lines g c = rw (ending_passed _ c.from_residual.ensures.1) (λ input few.
    let held = g.H.Shelf.held c.args.shelf.now in
    let level = c.args.asked.number in
    let had = c.in_err-lines.ensures in
    lacks_runs script_view (all_played level held) (scripted (Some level) held c.args.asked.script.now) play_asks few had.asks.looks (λ f. absurd (wrong f))
    had.asks.cause had.read (λ x has. has) tt)
