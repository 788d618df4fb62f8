use Rattle.vms_load.proofs.Facade.{spot_slots, IsOfKind, ◌≡◌, sym, subst, ◌∷◌, ◌++◌, ap, ◌∙◌, arith, append_assoc, described, steps_long}
use Rattle.vms_load.proofs.{StreamLengths.part_bound, StreamLengths.step_kind, Facade.long_append}
use Rattle.vms_load.proofs.body.read_part.Goals as goal

pub walk-requires-clause-may : goal.walk-requires-clause-may
walk-requires-clause-may g c =
    λ xs ys rest x b h e.
    let bound = part_bound (described c.args.set.now) c.args.spot b.image.now.numbers in
    let kinds : b.image.now.kinds ≡ c.args.image.now.kinds = ap (λ i. i.kinds) h.3.kept in
    let kind = step_kind c.args.image.now.kinds (spot_slots (described c.args.set.now) c.args.spot b.image.now.numbers) (xs ++ ys) rest x (c.requires.kinds b.image.now.numbers) (e ∙ sym (append_assoc xs ys (x ∷ rest))) in
    (omega (arith, ap steps_long e, long_append xs (ys ++ (x ∷ rest))), h.4 c.requires.cursor.held, subst (λ ks. IsOfKind ks x) (sym kinds) kind)
