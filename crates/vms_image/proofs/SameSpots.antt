-- Lists whose items a test finds equal.
use Rattle.vms_image.proofs.Facade.{◌≡◌, Bool, true, List, [], ◌∷◌, refl, and_parts, pointwise}

pub same_lists : {X : Type 0} (E : X → X → Bool) → ((x y : X) → E x y ≡ true → x ≡ y) → (xs ys : List X) → pointwise E xs ys ≡ true → xs ≡ ys
same_lists E same [] [] e = refl
same_lists E same [] (y ∷ ys) e = cc
same_lists E same (x ∷ xs) [] e = cc
same_lists E same (x ∷ xs) (y ∷ ys) e =
    let p = and_parts (E x y) (pointwise E xs ys) e in
    rw (same x y p.0, same_lists E same xs ys p.1)

pub lists_same : {X : Type 0} (E : X → X → Bool) → ((x : X) → E x x ≡ true) → (xs : List X) → pointwise E xs xs ≡ true
lists_same E same [] = refl
lists_same E same (x ∷ xs) = rw (same x) (lists_same E same xs)

pub lists_equal : {X : Type 0} (E : X → X → Bool) → ((x : X) → E x x ≡ true) → (xs ys : List X) → xs ≡ ys → pointwise E xs ys ≡ true
lists_equal E same xs ys e = rw (← e) (lists_same E same xs)
