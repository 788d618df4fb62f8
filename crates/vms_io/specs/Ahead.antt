-- The bytes that a buffered reader still gives.
use Rattle.std.specs.Prelude.{◌≡◌, ◌&&◌, ℕ, zero, suc, Bool, true, false, List, [], ◌∷◌, ◌++◌, Option, Some, None, nat_lt, if◌then◌else◌, IfSome, refl}
use Rattle.std.proofs.Common.{arith}
use Rattle.std.proofs.lemmas.Bool.{ltb-true}
use Rattle.std.specs.List.{list_all}
use Rattle.vms_kinds.specs.Bytes.{IsBytes}

-- each number in the list is a byte
abbrev pub are_bytes : List ℕ → Bool
are_bytes xs = list_all (λ x. nat_lt x 256) xs

-- the list if it consists of bytes, otherwise nothing
abbrev pub bytes_only : List ℕ → Option (List ℕ)
bytes_only xs = if are_bytes xs then Some xs else None

-- the waiting bytes and then the rest of the reader's, if they are known and are bytes
abbrev pub ahead : Option (List ℕ) → List ℕ → Option (List ℕ)
ahead None waiting = None
ahead (Some rest) waiting = bytes_only (waiting ++ rest)

both : (x y : Bool) → (x && y) ≡ true → (x ≡ true) × (y ≡ true)
both true y e = (refl, e)
both false y e = cc

are_bytes_is : (xs : List ℕ) → are_bytes xs ≡ true → IsBytes xs
are_bytes_is [] h i = omega arith
are_bytes_is (x ∷ xs) h zero = ltb-true x 256 (both (nat_lt x 256) (are_bytes xs) h).0
are_bytes_is (x ∷ xs) h (suc i) = are_bytes_is xs (both (nat_lt x 256) (are_bytes xs) h).1 i

-- what is known to come consists of bytes
pub ahead_bytes : (rest : Option (List ℕ)) (waiting : List ℕ) → IfSome (ahead rest waiting) IsBytes
ahead_bytes None waiting = tt
ahead_bytes (Some rest) waiting = by (waiting ++ rest) (are_bytes (waiting ++ rest)) refl
  where
    by : (xs : List ℕ) (b : Bool) → are_bytes xs ≡ b → IfSome (if b then Some xs else None) IsBytes
    by xs true e = are_bytes_is xs e
    by xs false e = tt
