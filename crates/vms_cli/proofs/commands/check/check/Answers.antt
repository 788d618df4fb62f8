use Rattle.vms_cli.proofs.Facade.{true, false, sym, wrong, lacks_text, text_asks, then_runs, [], ◌∷◌, refl, set_asked, named_sets, asks_shelf, compared}
use Rattle.vms_cli.proofs.{Facade.sets_of, Facade.ending_passed, RowLemmas.text_ends}
use Rattle.vms_cli.proofs.commands.check.check.Goals as goal

pub returns : goal.returns
returns g c = λ input few.
    let had = c.in_ok-sets.ensures in
    then_runs sets_of compared (named_sets (g.H.Shelf.held c.args.shelf.now) (set_asked c.args.old) (set_asked c.args.new)) c.in_ok-sets.sets few had.asks.looks.held
    had.had c.compare.ensures.ends (text_ends input _ _ _ _ false _ true (λ f. absurd (wrong (sym f))) _ c.compare.ensures.so had.asks.looks had.asks.unasked) (refl, refl) (λ x has. has)

pub returns-in_err-sets : goal.returns-in_err-sets
returns-in_err-sets g c = rw (ending_passed c.from_residual.result c.from_residual.ensures.1) (λ input few.
    let old = set_asked c.args.old in
    let new = set_asked c.args.new in
    let had = c.in_err-sets.ensures in
    lacks_text sets_of compared (named_sets (g.H.Shelf.held c.args.shelf.now) old new) (text_asks (0 ∷ 4 ∷ 6 ∷ 10 ∷ []) [] (asks_shelf old new) refl) few
    had.asks.looks had.asks.unasked had.asks.cause had.had (λ x has. has))
