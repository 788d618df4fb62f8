-- The parts of a set by another name of it.
use Rattle.vms_shipped.proofs.Facade.{◌≡◌, ℕ, zero, suc, ◌≤◌, Result, Ok, Err, IfOk, refl, ◌∙◌, arith, clock_1, clock_2, clock_set, Set}

pub same_set : {A E : Type 0} (view : A → Set) (outcome : Result A E) (first second : Set)
    → IfOk outcome (λ made. view made ≡ first) → first ≡ second → IfOk outcome (λ made. view made ≡ second)
same_set view (Ok made) first second h e = h ∙ e
same_set view (Err fault) first second h e = h

-- the clock sets of the numbers 0 and 1, and of the others
pub first_clock : (c : ℕ) → c ≤ 1 → clock_1 ≡ clock_set c
first_clock zero le = refl
first_clock (suc zero) le = refl
first_clock (suc (suc c)) le = absurd (omega (arith, le))

pub second_clock : (c : ℕ) → 2 ≤ c → clock_2 ≡ clock_set c
second_clock zero ge = absurd (omega (arith, ge))
second_clock (suc zero) ge = absurd (omega (arith, ge))
second_clock (suc (suc c)) ge = refl
