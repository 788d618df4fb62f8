-- Bytes that are buffered before a writer gets them.
use Rattle.std.specs.Prelude.{◌≡◌, ℕ, List, [], ◌∷◌, ◌++◌, take, drop, Option, Some, None}

-- the longer block, if there is one
abbrev pub block : List ℕ → List ℕ → List ℕ
block first [] = first
block first (x ∷ longer) = x ∷ longer

-- the bytes from `begin` to `end`
abbrev pub between : List ℕ → ℕ → ℕ → List ℕ
between room begin end = drop begin (take end room)

-- the writer's bytes and then the buffered ones, if the former are known
abbrev pub told : Option (List ℕ) → List ℕ → Option (List ℕ)
told None waiting = None
told (Some bytes) waiting = Some (bytes ++ waiting)

-- the new bytes are a front of the old ones, if these are known
abbrev pub KeepsFront : Option (List ℕ) → Option (List ℕ) → Type 0
KeepsFront None new = Unit {0}
KeepsFront (Some xs) None = ⊥
KeepsFront (Some xs) (Some ys) = (rest : List ℕ) × (xs ≡ ys ++ rest)
