-- The first line feed of a text.
use Rattle.std.proofs.Common.{◌≡◌, ℕ, zero, suc, ◌<◌, List, [], ◌∷◌, length, get_or, take, drop, Some, None, refl, ap, arith}
use Rattle.std.proofs.lemmas.Bool.{ne_eqb, eq-eqb}
use Rattle.vms_spec.specs.Spelling.{first_line, longer_line}

pub line_at : (xs : List ℕ) (i : ℕ) → i < length xs → get_or xs i 0 ≡ 10 → ((k : ℕ) → k < i → get_or xs k 0 ≡ 10 → ⊥)
    → first_line xs ≡ Some (take i xs, drop (suc i) xs)
line_at [] i lt is before = absurd (omega arith)
line_at (b ∷ xs) zero lt is before = rw (eq-eqb b 10 is)
line_at (b ∷ xs) (suc i) lt is before =
    rw (ne_eqb b 10 (before 0 (omega arith))) (ap (longer_line b) (line_at xs i (omega arith) is (λ k h. before (suc k) (omega arith))))

pub no_line_in : (xs : List ℕ) → ((k : ℕ) → k < length xs → get_or xs k 0 ≡ 10 → ⊥) → first_line xs ≡ None
no_line_in [] none = refl
no_line_in (b ∷ xs) none = rw (ne_eqb b 10 (none 0 (omega arith))) (ap (longer_line b) (no_line_in xs (λ k h. none (suc k) (omega arith))))
