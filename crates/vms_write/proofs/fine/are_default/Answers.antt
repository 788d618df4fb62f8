use Rattle.vms_write.proofs.Facade.{◌≡◌, ℕ, suc, ◌+◌, ◌-◌, ◌&&◌, [], List, ℤ, get_or, pos, ap, sym, ◌∙◌, arith, same_number}
use Rattle.vms_write.proofs.Facade.{CellForm, no_form, formed, settle}
use Rattle.vms_write.proofs.fine.are_default.Goals as goal

one_more : (f : List CellForm) (n : List ℤ) (at left more : ℕ) → left ≡ suc more
    → settle [] f n at left ≡ (same_number (get_or n at (pos 0)) (get_or f at no_form).default && settle [] f n (at + 1) more)
one_more f n at left more e = ap (settle [] f n at) e

pub loop-cell-preserved : goal.loop-cell-preserved
loop-cell-preserved c =
    let f = formed c.args.defaults.now in
    let n = c.args.image.now.numbers in
    let cell = c.loop-cell.cell in
    let end = c.args.end in
    let next = one_more f n cell (end - cell) (end - (cell + 1)) (omega arith) in
    ap (λ b. b && settle [] f n (cell + 1) (end - (cell + 1))) (sym c.if-not-is_default.false ∙ c.is_default.ensures) ∙ sym next ∙ c.loop-cell.invariant
