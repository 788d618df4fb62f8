use Rattle.dev_serial.proofs.Facade.{sym, ◌∙◌, arith, subst, ◌≡◌, true, take, range_with_len, list_all, is_held_or_zero}
use Rattle.dev_serial.proofs.SavedLaws.{all_fails, all_more}
use Rattle.dev_serial.proofs.stored.Ring.is_zero_outside.Goals as goal

pub returns-then-not-is_held_or_zero : goal.returns-then-not-is_held_or_zero
returns-then-not-is_held_or_zero c =
    sym (all_fails (is_held_or_zero c.args.self.now) c.loop-place.place c.loop-place-test.true (sym c.is_held_or_zero.ensures ∙ c.if-not-is_held_or_zero.true))

pub loop-place-preserved : goal.loop-place-preserved
loop-place-preserved c = all_more (is_held_or_zero c.args.self.now) c.loop-place.place c.loop-place-test.true c.loop-place.invariant (sym c.is_held_or_zero.ensures ∙ c.if-not-is_held_or_zero.false)

pub returns : goal.returns
returns c =
    let e : c.loop-place.place ≡ 16 = omega (arith, c.loop-place.auto.place-end, c.loop-place-test.false) in
    sym (subst (λ n. list_all (is_held_or_zero c.args.self.now) (take n (range_with_len 0 16)) ≡ true) e c.loop-place.invariant)
