use Rattle.vms_convert.proofs.Facade.{List, Option, ℕ, [], ◌∷◌, ◌++◌, None, replicate, ap, append_assoc, replicate-append-replicate}
use Rattle.vms_convert.proofs.pairing.put_unpaired.Goals as goal

pub loop-cell-preserved : goal.loop-cell-preserved
loop-cell-preserved c =
    rw (c.in_ok-push.ensures.items, c.loop-cell.invariant, append_assoc c.args.partners.now.items (replicate c.loop-cell._cell None) (None ∷ []))
    (ap (λ (l : List (Option ℕ)). c.args.partners.now.items ++ l) (replicate-append-replicate c.loop-cell._cell 1 None))
