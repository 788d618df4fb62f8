use Rattle.vms_cli.proofs.{RowLemmas.text_ends, TextCommands.counters_text, Facade.ending_passed}
use Rattle.vms_cli.proofs.Facade.{false, sym, wrong, lacks_text, text_asks, then_runs, [], ◌∷◌, refl, set_asked, named_sets, asks_shelf, sets_of, counted}
use Rattle.vms_cli.proofs.commands.counter.counter.Goals as goal

pub returns : goal.returns
returns g c = λ input few.
    let held = g.H.Shelf.held c.args.shelf.now in
    let old = set_asked c.args.old in
    let new = set_asked c.args.new in
    let had = c.in_ok-sets.ensures in
    then_runs sets_of counted (named_sets held old new) c.in_ok-sets.sets few had.asks.looks.held had.had c.find.ensures.ends
    (text_ends input _ _ _ _ false _ false (λ f. absurd (wrong (sym f))) _ c.find.ensures.so had.asks.looks had.asks.unasked) (refl, refl) (counters_text held old new)

pub returns-in_err-sets : goal.returns-in_err-sets
returns-in_err-sets g c = rw (ending_passed c.from_residual.result c.from_residual.ensures.1) (λ input few.
    let held = g.H.Shelf.held c.args.shelf.now in
    let old = set_asked c.args.old in
    let new = set_asked c.args.new in
    let had = c.in_err-sets.ensures in
    lacks_text sets_of counted (named_sets held old new) (text_asks (0 ∷ 6 ∷ 10 ∷ []) [] (asks_shelf old new) refl) few
    had.asks.looks had.asks.unasked had.asks.cause had.had (counters_text held old new))
