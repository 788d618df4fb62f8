use Rattle.vms_cli.proofs.Facade.{[], ◌∷◌, refl, intake, described, set_asked, is_on_shelf, word_set, ending_passed, behind_runs, had_by, lacks_runs}
use Rattle.vms_cli.proofs.Facade.{text_asks, ConvertsWell, agrees, convert_course, target}
use Rattle.vms_cli.proofs.StreamCommands.{converts_after, converts_next, gives_next, gives_none, seen_next}
use Rattle.vms_cli.proofs.commands.convert.convert.Goals as goal

pub returns : goal.returns
returns g c =
    let held = g.H.Shelf.held c.args.shelf.now in
    let left = g.I.Source.left c.args.input.now in
    let word = set_asked c.args.set in
    let step = word_set held word in
    let had = c.in_ok-to.ensures in
    let to = c.in_ok-to.to in
    behind_runs convert_course (is_on_shelf word) refl c.convert_to.ensures.runs had.asks.looks had.asks.unasked
    (λ x has. had_by described (converts_after left held) step to x had.had (converts_next left held step x has))
    (gives_next described agrees step to (intake g.I.Source c.args.input.now) (intake g.I.Source c.convert_to.new.input) had.had c.convert_to.ensures.given)
    (λ seen. seen_next described agrees (ConvertsWell held) _ step to had.had seen)

-- the set can't be obtained
pub returns-in_err-to : goal.returns-in_err-to
returns-in_err-to g c = rw (ending_passed c.from_residual.result c.from_residual.ensures.1) (
    let held = g.H.Shelf.held c.args.shelf.now in
    let word = set_asked c.args.set in
    let step = word_set held word in
    let input = intake g.I.Source c.args.input.now in
    let had = c.in_err-to.ensures in
    lacks_runs described (converts_after input.left held) step (text_asks (0 ∷ 1 ∷ 4 ∷ 5 ∷ 6 ∷ 10 ∷ 11 ∷ []) (0 ∷ 1 ∷ 5 ∷ 6 ∷ 11 ∷ []) (is_on_shelf word) refl)
    (g.met.I.Source.counted c.args.input.now) had.asks.looks had.asks.unasked had.asks.cause had.had (λ x has. converts_next input.left held step x has)
    (gives_none (target held word) input))
