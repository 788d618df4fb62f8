-- Lists by number: the first number at which a test holds, and the first answer.
use Rattle.std.specs.Prelude.{ℕ, suc, Bool, if◌then◌else◌, List, [], ◌∷◌, Option, Some, None}
use Rattle.std.specs.List.{slice_get}

-- the element at a number, if there is a number and the list is long enough
abbrev pub at_option : {X : Type 0} → List X → Option ℕ → Option X
at_option xs None = None
at_option xs (Some k) = slice_get xs k

-- the number of the first element that passes the test, if the first of the list has number k
abbrev pub position : {X : Type 0} → (X → Bool) → ℕ → List X → Option ℕ
position p k [] = None
position p k (x ∷ xs) = if p x then Some k else position p (suc k) xs

-- the first of two answers, or the second if there is no first
abbrev pub or_else : {X : Type 0} → Option X → Option X → Option X
or_else (Some x) y = Some x
or_else None y = y

-- the first answer over a list, where each element is tried with its number, the first with i
abbrev pub first_answer : {X Y : Type 0} → (ℕ → X → Option Y) → ℕ → List X → Option Y
first_answer f i [] = None
first_answer f i (x ∷ xs) = or_else (f i x) (first_answer f (suc i) xs)
