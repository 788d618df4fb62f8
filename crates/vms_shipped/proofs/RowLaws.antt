-- Parts made row by row.
use Rattle.vms_shipped.proofs.Facade.{◌≡◌, ℕ, ◌+◌, ◌<◌, List, [], ◌∷◌, ◌++◌, length, get_or, take, drop, map, sym, ap, ◌∙◌, append_assoc, map-append, take_more}
use Rattle.vms_shipped.proofs.Facade.{drop_more, Field, field_of}
use Rattle.vms_spec.specs.Sets as sets

-- one more part
pub pushed : {A B : Type 0} (view : A → B) (made new : List A) (one : A) (read : B)
    → new ≡ made ++ one ∷ [] → view one ≡ read → map view new ≡ map view made ++ read ∷ []
pushed {B = B} view made new one read e h =
    ap (map view) e ∙ map-append view made (one ∷ []) ∙ ap (λ (x : B). map view made ++ x ∷ []) h

-- the parts of the rows so far
pub one_more : {A B C : Type 0} (view : A → C) (read : B → C) (rows : List B) (i : ℕ) (d : B) (made new : List A) (one : A)
    → i < length rows → new ≡ made ++ one ∷ [] → view one ≡ read (get_or rows i d)
    → map view made ≡ map read (take i rows) → map view new ≡ map read (take (i + 1) rows)
one_more {C = C} view read rows i d made new one lt e h w =
    pushed view made new one (read (get_or rows i d)) e h ∙ ap (λ (l : List C). l ++ read (get_or rows i d) ∷ []) w
    ∙ sym (ap (map read) (take_more rows i d lt) ∙ map-append read (take i rows) (get_or rows i d ∷ []))

-- fields before those of the remaining rows; `each` gives the fields of one row
pub one_less : {X : Type 0} (each : X → List sets.Field) (rest : List X → List sets.Field)
    → ((x : X) (xs : List X) → rest (x ∷ xs) ≡ each x ++ rest xs)
    → (rows : List X) (i : ℕ) (d : X) (made new : List Field) (was : List sets.Field)
    → i < length rows → map field_of new ≡ map field_of made ++ each (get_or rows i d)
    → map field_of made ++ rest (drop i rows) ≡ was → map field_of new ++ rest (drop (i + 1) rows) ≡ was
one_less each rest step rows i d made new was lt e w =
    ap (λ (l : List sets.Field). l ++ rest (drop (i + 1) rows)) e
    ∙ append_assoc (map field_of made) (each (get_or rows i d)) (rest (drop (i + 1) rows))
    ∙ ap (λ (l : List sets.Field). map field_of made ++ l) (sym (ap rest (drop_more rows i d lt) ∙ step (get_or rows i d) (drop (i + 1) rows)))
    ∙ w
