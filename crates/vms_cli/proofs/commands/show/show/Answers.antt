use Rattle.vms_cli.proofs.Facade.{refl, intake, loads, set_asked, is_on_shelf, word_set, ending_passed, behind_runs, had_by, lacks_runs, seen_given}
use Rattle.vms_cli.proofs.Facade.{stream_asks, well_of, ShowsWell, show_course}
use Rattle.vms_cli.proofs.TextCommands.{gives_none, gives_within, shows_under}
use Rattle.vms_cli.proofs.commands.show.show.Goals as goal

pub returns : goal.returns
returns g c =
    let held = g.H.Shelf.held c.args.shelf.now in
    let word = set_asked c.args.set in
    let had = c.in_ok-loader.ensures in
    let loader = c.in_ok-loader.loader in
    behind_runs show_course (is_on_shelf word) refl c.show_stream.ensures.runs had.asks.looks had.asks.unasked
    (λ x has. had_by loads (shows_under (g.I.Source.left c.args.input.now) held) (word_set held word) loader x had.had has)
    (gives_within loads (word_set held word) loader (intake g.I.Source c.args.input.now) (intake g.I.Source c.show_stream.new.input)
    had.had c.show_stream.ensures.given (well_of (loads loader) loader.set.well_formed))
    (λ seen. seen_given {P = ShowsWell held} loads (word_set held word) loader _ had.had seen)

-- the set can't be obtained
pub returns-in_err-loader : goal.returns-in_err-loader
returns-in_err-loader g c = rw (ending_passed c.from_residual.result c.from_residual.ensures.1) (
    let word = set_asked c.args.set in
    let step = word_set (g.H.Shelf.held c.args.shelf.now) word in
    let input = intake g.I.Source c.args.input.now in
    let had = c.in_err-loader.ensures in
    lacks_runs loads (shows_under input.left (g.H.Shelf.held c.args.shelf.now)) step (stream_asks (is_on_shelf word)) (g.met.I.Source.counted c.args.input.now)
    had.asks.looks had.asks.unasked had.asks.cause had.had (λ x has. has) (gives_none step input))
