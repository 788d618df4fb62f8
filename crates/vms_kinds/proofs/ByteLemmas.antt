-- Bytes that are joined and split.
use Rattle.std.proofs.Common.{ℕ, zero, suc, List, ◌∷◌, ◌++◌, take, arith, []}
use Rattle.vms_kinds.specs.Bytes.{IsBytes}

pub bytes_both : (xs ys : List ℕ) → IsBytes xs → IsBytes ys → IsBytes (xs ++ ys)
bytes_both [] ys a b i = b i
bytes_both (x ∷ xs) ys a b zero = a 0
bytes_both (x ∷ xs) ys a b (suc i) = bytes_both xs ys (λ j. a (suc j)) b i

pub bytes_first : (n : ℕ) (xs : List ℕ) → IsBytes xs → IsBytes (take n xs)
bytes_first zero xs ok i = omega arith
bytes_first (suc n) [] ok i = omega arith
bytes_first (suc n) (x ∷ xs) ok zero = ok 0
bytes_first (suc n) (x ∷ xs) ok (suc i) = bytes_first n xs (λ j. ok (suc j)) i

pub bytes_rest : (xs ys : List ℕ) → IsBytes (xs ++ ys) → IsBytes ys
bytes_rest [] ys ok i = ok i
bytes_rest (x ∷ xs) ys ok i = bytes_rest xs ys (λ j. ok (suc j)) i
