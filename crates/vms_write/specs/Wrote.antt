-- What a walk leaves in a sink.
use Rattle.std.specs.Prelude.{◌≡◌, ℕ, List, [], ◌∷◌, ◌++◌, ℤ, Result}
use Rattle.std.proofs.Common.{refl, ap, ◌∙◌, append_assoc}
use Rattle.vms_io.specs.Told.{Outlet}
use Rattle.vms_io.specs.Writing.{Puts, Stops, Wrote}
use Rattle.vms_io.proofs.WritingLemmas.{stops_as, stops_front, wrote_as, wrote_behind}
use Rattle.vms_walk.specs.declared.step.WalkStep.{WalkStep}
use Rattle.vms_write.specs.Bytes.{step_bytes, bytes_of}

bytes_append : (n : List ℤ) (xs ys : List WalkStep) → bytes_of n xs ++ bytes_of n ys ≡ bytes_of n (xs ++ ys)
bytes_append n [] ys = refl
bytes_append n (x ∷ xs) ys = append_assoc (step_bytes n x) (bytes_of n xs) (bytes_of n ys) ∙ ap (λ (l : List ℕ). step_bytes n x ++ l) (bytes_append n xs ys)

-- `n` and `m` are the same numbers.
pub wrote_then : {T E : Type 0} {a b : Outlet} (c : Outlet) (n m : List ℤ) (xs ys : List WalkStep) (r : Result T E) → m ≡ n → Puts a b (bytes_of n xs) → Wrote b c (bytes_of m ys) r
    → Wrote a c (bytes_of n (xs ++ ys)) r
wrote_then {a = a} {b = b} c n m xs ys r e h k =
    wrote_as r a c (bytes_append n xs ys) (wrote_behind r c (bytes_of n ys) h (wrote_as r b c (ap (λ (l : List ℤ). bytes_of l ys) e) k))

pub stops_before : {a b : Outlet} (n : List ℤ) (xs ys : List WalkStep) → Stops a b (bytes_of n xs) → Stops a b (bytes_of n (xs ++ ys))
stops_before n xs ys h = stops_as (bytes_append n xs ys) (stops_front (bytes_of n ys) h)
