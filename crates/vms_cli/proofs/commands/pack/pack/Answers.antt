use Rattle.vms_cli.proofs.Facade.{true, false, lacks_text, save_asks, then_runs, refl, set_asked, named_parts, packed_parts, parts_of, ending_passed}
use Rattle.vms_cli.proofs.RowLemmas.{text_ends}
use Rattle.vms_cli.proofs.commands.pack.pack.Goals as goal

pub returns : goal.returns
returns g c = λ input few.
    let had = c.in_ok-parts.ensures in
    then_runs parts_of packed_parts (named_parts (g.H.Shelf.held c.args.shelf.now) (set_asked c.args.set) c.args.values.now) c.in_ok-parts.parts few
    had.asks.looks.held had.had (rw c.deref.ensures.value at c.pack_text.ensures.ends)
    (text_ends input _ _ _ _ true true false (λ is. is) _ c.pack_text.ensures.so had.asks.looks had.asks.unasked) (refl, refl) (λ x has. has)

pub returns-in_err-parts : goal.returns-in_err-parts
returns-in_err-parts g c = rw (ending_passed c.from_residual.result c.from_residual.ensures.1) (λ input few.
    let had = c.in_err-parts.ensures in
    lacks_text parts_of packed_parts (named_parts (g.H.Shelf.held c.args.shelf.now) (set_asked c.args.set) c.args.values.now) save_asks few
    had.asks.looks had.asks.unasked had.asks.cause had.had (λ x has. has))
