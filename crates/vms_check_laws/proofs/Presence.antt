-- Where fields are: whether they are there, at which position, and which numbers and slots they
-- have.
use Rattle.vms_check_laws.proofs.Facade
use Facade.{◌≡◌, ◌⊎◌, inl, inr, ℕ, suc, ◌+◌, ◌<◌, ◌≤◌, Bool, true, false, ◌==◌, List, ◌∷◌, ◌++◌, length, Option, Some}
use Facade.{None, refl, sym, ap, arith, if◌then◌else◌, eqb-true, eq-eqb, [], Formula, Field, Cell, field_cells, Entry, entry_of, present_from}
use Facade.{position_from, same_place, and_parts, and_from, zero, ◌*◌, get_or, ℤ, pos, length-append, length-replicate, truth, is_there, Reduced, reduced}
use Facade.{left_of, presence, truth_of, reduced_holds, Own, Not, And, Or, names_well, nobody, same_test, same_rest, same_reduced, IfOpen, open_reduced, Kind}
use Facade.{Item, Unused, width, Count, Number, Constant, times, zeroed, is_steady, is_num, is_one, has_no_test, length-code, is_covered, Holds, Filler}
use Facade.{◌∙◌, append_assoc, get_or_append_left, get_or-append-add, append-nil, slice_get, no_cell, Slot, Rule, FitsAt, Carries, rules_append}
use Facade.{spells_append, code, Spells, Aligns, rules_split, drop-append_seam, take-append_seam}
use Rattle.vms_spec.specs.contracts.Rel.{the_type as rel_type}
use denote.Enum.Bare.{same_true}
use Rattle.vms_spec.specs.Sets as sets

-- ---- the positions of present fields: those of earlier fields are lower

pub same_some : (r s : Option ℕ) → same_place r s ≡ true → (q : ℕ) × (r ≡ Some q) × (s ≡ Some q)
same_some r s h = grind arith

-- a choice has one of its two values
pub if_is : {A B : Type 0} (f : A → B) (c : Bool) (x y : A) {z : B} → f (if c then x else y) ≡ z → ((c ≡ true) × (f x ≡ z)) ⊎ ((c ≡ false) × (f y ≡ z))
if_is f c x y h = grind arith

pub position_is : (p k : ℕ) (e : Entry) (es : List Entry) {r : Option ℕ} → position_from p (e ∷ es) k ≡ r
    → ((e.index ≡ k) × (Some p ≡ r)) ⊎ (((e.index == k) ≡ false) × (position_from (suc p) es k ≡ r))
position_is p k e es h = grind (arith, if_is, eqb-true)

pub position_least : (q j r : ℕ) (fs : List Entry) → position_from q fs j ≡ Some r → q ≤ r
position_least q j r [] h = absurd (cc)
position_least q j r (f ∷ fs) h =
    elim (position_is q j f fs h) [ inl now ↦ let e : q ≡ r = cc (now.1) in omega arith | inr later ↦ omega (arith, position_least (suc q) j r fs later.1) ]

later_not : (k p : ℕ) (es : List Entry) → position_from (suc p) es k ≡ Some p → ⊥
later_not k p es h = omega (arith, position_least _ k p es h)

-- two at one position are the first of both sides, or later ones
pub at_or_later : (i j p : ℕ) (e f : Entry) (es fs : List Entry) → same_place (position_from p (e ∷ es) i) (position_from p (f ∷ fs) j) ≡ true
    → ((e.index ≡ i) × (f.index ≡ j)) ⊎ (((f.index == j) ≡ false) × (same_place (position_from (suc p) es i) (position_from (suc p) fs j) ≡ true))
at_or_later i j p e f es fs h = grind (arith, same_some, position_is, later_not, eq-eqb)

-- each has a greater number than the one before, the first at least i
abbrev pub Above : ℕ → List Entry → Type 0
Above i [] = Unit {0}
Above i (e ∷ es) = (i ≤ e.index) × Above (suc e.index) es

above_less : (i j : ℕ) (es : List Entry) → i ≤ j → Above j es → Above i es
above_less i j [] le h = tt
above_less i j (e ∷ es) le h = (omega arith, h.1)

entry_above : (i p : ℕ) (f : Field) (pr : Option (Option Formula)) (es : List Entry) → Above (suc i) es → Above i (entry_of i p f pr ++ es)
entry_above i p f pr es h = grind (arith, above_less)

pub present_above : (y : List (List Cell)) (all : List Field) (w i p : ℕ) (fs : List Field) → Above i (present_from y all w i p fs)
present_above y all w i p [] = tt
present_above y all w i p (f ∷ fs) = entry_above i p f _ _ (present_above y all w (suc i) (p + length (field_cells y all i f)) fs)

pub none_before : (q j r i : ℕ) (fs : List Entry) → Above i fs → j < i → position_from q fs j ≡ Some r → ⊥
none_before q j r i [] h lt e = absurd (cc)
none_before q j r i (f ∷ fs) h lt e =
    elim (position_is q j f fs e) [ inl now ↦ absurd (omega arith) | inr later ↦ none_before (suc q) j r (suc f.index) fs h.1 (omega arith) later.1 ]

-- ---- a field is there exactly where what its presence at a version leaves of the test holds. The same remaining tests have the
-- same truth where the numbers that they name are the same. Small facts of two descriptions: what covers, and how long numbers
-- are.

-- presence at a version, and then the remaining test, say whether a field is there
abbrev pub there : Option (Option Formula) → ℕ → (ℕ → ℕ) → (ℕ → ℕ) → Bool
there None v own parent = false
there (Some None) v own parent = true
there (Some (Some t)) v own parent = truth t v own parent

left_there : (r : Reduced) (v : ℕ) (own parent : ℕ → ℕ) → there (left_of r) v own parent ≡ truth_of r v own parent
left_there r v own parent = grind arith

pub presence_there : (test : Option Formula) (since v : ℕ) (own parent : ℕ → ℕ) → is_there test since v own parent ≡ there (presence v test since) v own parent
presence_there test since v own parent = grind (arith, left_there, reduced_holds)

-- numbers that may be named are the same where their positions are
abbrev pub Agree : (o n : ℕ → Option ℕ) → (ok : ℕ → Bool) → (own own' : ℕ → ℕ) → Type 0
Agree o n ok own own' = (i j : ℕ) → ok j ≡ true → same_place (o i) (n j) ≡ true → own i ≡ own' j

module _ (ok : ℕ → Bool) where
  abbrev IsNamed : Formula → Type 0
  IsNamed t = names_well ok nobody t ≡ true

  abbrev pub Named : Reduced → Type 0
  Named r = IfOpen IsNamed r

  -- the rest of a test names what the test names
  pub named_left : (u : ℕ) (t : Formula) → names_well ok nobody t ≡ true → Named (reduced u t)
  named_left u t h = search (arith, open_reduced, and_from)

  abbrev pub NamedRest : Option Formula → Type 0
  NamedRest None = Unit {0}
  NamedRest (Some t) = names_well ok nobody t ≡ true

  since_named : (b : Bool) (rest : Option Formula) → (if b then Some None else None) ≡ Some rest → NamedRest rest
  since_named b rest h = grind arith

  -- the rest of a field's test names what its test names
  pub presence_named : (w : ℕ) (test : Option Formula) (since : ℕ) (rest : Option Formula) → NamedRest test → presence w test since ≡ Some rest → NamedRest rest
  presence_named w test since rest named h = grind (arith, since_named, named_left)

module _ (o n : ℕ → Option ℕ) (ok : ℕ → Bool) (own own' parent parent' : ℕ → ℕ) (v w : ℕ) (agree : Agree o n ok own own') where
  pub same_truth : (s t : Formula) → names_well ok nobody t ≡ true → same_test o n s t ≡ true → truth s v own parent ≡ truth t w own' parent'
  same_truth (sets.Cell Own i mask rel value) (sets.Cell Own j mask' rel' value') good h = grind (arith, same_true, rel_type, eqb-true)
  same_truth (Not s) (Not t) good h = rw (same_truth s t good h)
  same_truth (And s s') (And t t') good h = grind (arith, and_parts, same_truth s t, same_truth s' t')
  same_truth (Or s s') (Or t t') good h = grind (arith, and_parts, same_truth s t, same_truth s' t')
  same_truth _ _ good h = cc

  pub same_reduced_truth : (r q : Reduced) → Named ok q → same_reduced o n r q ≡ true → truth_of r v own parent ≡ truth_of q w own' parent'
  same_reduced_truth r q named h = grind (arith, same_truth)

  -- the same remaining tests
  pub same_there : (s t : Option Formula) → NamedRest ok t → same_rest o n s t ≡ true → there (Some s) v own parent ≡ there (Some t) w own' parent'
  same_there s t named h = grind (arith, same_truth)

-- what covers is unused bytes
pub covers_unused : (i : Item) (c : Count) (j : Item) → is_covered i c j ≡ true → (r : ℕ) × (j ≡ Unused r)
covers_unused i c j covers = grind arith

pub not_covered : (i : Item) (c : Count) (j : Item) → is_covered i c j ≡ true → is_num j ≡ true → ⊥
not_covered i c j covers number = let unused = rw ((covers_unused i c j covers).1) at number in absurd (cc)

-- the bytes of n numbers
pub numbers_length : (numbers : List ℤ) (kind : Kind) (caps : List ℕ) (n at step : ℕ)
    → length (zeroed numbers (times n (λ c. Number c kind caps ∷ []) at step)) ≡ n * width kind
numbers_length numbers kind caps zero at step = omega arith
numbers_length numbers kind caps (suc n) at step = grind (arith, length-append, length-code, numbers_length numbers kind caps n (at + step) step)

pub constant_length : (numbers : List ℤ) (kind : Kind) (z : ℤ) → length (zeroed numbers (Constant kind z ∷ [])) ≡ width kind
constant_length numbers kind z = rw (length-append, length-code kind z) (omega arith)

pub filler_length : (numbers : List ℤ) (n : ℕ) → length (zeroed numbers (Filler n ∷ [])) ≡ n
filler_length numbers n = grind (arith, length-append, length-replicate)

-- a field that tests and counts may name
pub record Steady (f : Field) : Type 0 where
  pub item : is_num f.item ≡ true
  pub count : is_one f.count ≡ true
  pub test : has_no_test f.test ≡ true

pub steady : (minimum : ℕ) (o : Option Field) (f : Field) → o ≡ Some f → is_steady minimum o ≡ true → Steady f
steady minimum o f e h = search (arith)

pub steady_rest : (w : ℕ) (test : Option Formula) (since : ℕ) (rest : Option Formula) → has_no_test test ≡ true → presence w test since ≡ Some rest
    → rest ≡ None
steady_rest w test since rest h k = grind arith

pub rest_none : (o n : ℕ → Option ℕ) (r s : Option Formula) → s ≡ None → same_rest o n r s ≡ true → r ≡ None
rest_none o n r s h k = grind arith

pub there_here : (v : ℕ) (test : Option Formula) (since : ℕ) (rest : Option Formula) (own parent : ℕ → ℕ) → presence v test since ≡ Some rest
    → is_there test since v own parent ≡ there (Some rest) v own parent
there_here v test since rest own parent h = rw (presence_there test since v own parent, h)

pub one_number : (c : Bool) (numbers' : List ℤ) (y : ℕ) (z d : ℤ) → c ≡ true → Holds numbers' y ((if c then z ∷ [] else d ∷ []) ++ [])
    → get_or numbers' (y + 0) (pos 0) ≡ z
one_number c numbers' y z d e h = grind arith

-- ---- segments of numbers, and slots of one side whose bytes are those of the other's. Bytes of both sides at one front: if
-- slots of the newer set are at the front of what the older set wrote, they take exactly the bytes that it wrote for its own
-- slots.

-- the elements from a place on
abbrev pub RestAt : {A : Type 0} → List A → ℕ → List A → Type 0
RestAt xs j ys = (m : ℕ) → slice_get xs (j + m) ≡ slice_get ys m

-- values from a place on
pub at_first : {A : Type 0} (f : ℕ → A) (j : ℕ) {g : ℕ → A} → ((m : ℕ) → f (j + m) ≡ g m) → f j ≡ g 0
at_first f j h = grind arith

pub one_on : {A : Type 0} (f : ℕ → A) (j : ℕ) {g : ℕ → A} → ((m : ℕ) → f (j + m) ≡ g m) → (m : ℕ) → f (suc j + m) ≡ g (suc m)
one_on f j h m = grind arith

pub from_zero : {A : Type 0} (f : ℕ → A) (m : ℕ) → f (0 + m) ≡ f m
from_zero f m = let z : 0 + m ≡ m = omega arith in rw z

pub holds_left : {numbers : List ℤ} {at : ℕ} {xs : List ℤ} (ys : List ℤ) → Holds numbers at (xs ++ ys) → Holds numbers at xs
holds_left {xs = xs} ys h = record { each = λ c lt. h.each c (omega (arith, length-append xs ys)) ∙ get_or_append_left xs ys (pos 0) c lt }

pub holds_right : {numbers : List ℤ} {at : ℕ} (xs : List ℤ) {ys : List ℤ} → Holds numbers at (xs ++ ys) → Holds numbers (at + length xs) ys
holds_right {at = at} xs {ys = ys} h = record {
  each = λ c lt.
      let e : (at + length xs) + c ≡ at + (length xs + c) = omega arith in
      rw e (h.each (length xs + c) (omega (arith, length-append xs ys)) ∙ get_or-append-add xs ys c (pos 0));
}

pub holds_at : {numbers : List ℤ} {at at' : ℕ} {xs : List ℤ} → at ≡ at' → Holds numbers at xs → Holds numbers at' xs
holds_at e h = rw e at h

pub fits_left : {xs : List Cell} (ys : List Cell) {numbers : List ℤ} {at : ℕ} → FitsAt (xs ++ ys) numbers at → FitsAt xs numbers at
fits_left {xs = xs} ys h = record { each = λ c lt. rw (get_or_append_left xs ys no_cell c lt) at (h.each c (omega (arith, length-append xs ys))) }

pub fits_right : (xs : List Cell) {ys : List Cell} {numbers : List ℤ} {at : ℕ} → FitsAt (xs ++ ys) numbers at → FitsAt ys numbers (at + length xs)
fits_right xs {ys = ys} {at = at} h = record {
  each = λ c lt.
      let e : at + (length xs + c) ≡ (at + length xs) + c = omega arith in
      rw (get_or-append-add xs ys c no_cell, e) at (h.each (length xs + c) (omega (arith, length-append xs ys)));
}

pub fits_at : {cells : List Cell} {numbers : List ℤ} {at at' : ℕ} → at ≡ at' → FitsAt cells numbers at → FitsAt cells numbers at'
fits_at e h = rw e at h

-- ---- slots

pub zeroed_append : (numbers : List ℤ) (a b : List Slot) → zeroed numbers (a ++ b) ≡ zeroed numbers a ++ zeroed numbers b
zeroed_append numbers [] b = refl
zeroed_append numbers (Rule r ∷ a) b = zeroed_append numbers a b
zeroed_append numbers (_ ∷ a) b = rw (zeroed_append numbers a b, append_assoc)

pub carries_nil : {x y : List ℤ} → Carries x [] y []
carries_nil = record { spells = refl; rules = λ h. h }

pub carries_append : {x y : List ℤ} {a b c d : List Slot} → Carries x a y b → Carries x c y d → Carries x (a ++ c) y (b ++ d)
carries_append {x = x} {y = y} {a = a} {b = b} {c = c} {d = d} h k = record {
  spells = rw zeroed_append (spells_append y b d _ _ h.spells k.spells);
  rules = λ r. let s = rules_split a c r in rules_append b d (h.rules s.0) (k.rules s.1);
}

-- unused bytes cover anything of their length
pub carries_filler : (x y : List ℤ) (a : List Slot) (n : ℕ) → length (zeroed x a) ≡ n → Carries x a y (Filler n ∷ [])
carries_filler x y a n e = record { spells = (zeroed x a, [], e, sym (append-nil (zeroed x a)), refl); rules = λ h. tt }

-- ---- lists

pub apart : (xs ys r r' : List ℕ) → length xs ≡ length ys → xs ++ r' ≡ ys ++ r → (xs ≡ ys) × (r' ≡ r)
apart xs ys r r' e h = (cc (take-append_seam xs r', take-append_seam ys r), cc (drop-append_seam xs r', drop-append_seam ys r))

-- the bytes are the same
pub same_bytes : (x : List ℤ) (a : List Slot) (y : List ℤ) (b : List Slot) → Aligns x a y b → (body r r' : List ℕ) → Spells y b body
    → body ++ r' ≡ zeroed x a ++ r → body ≡ zeroed x a
same_bytes x a y b al body r r' s h =
    (apart body _ r r' (omega (arith, ap length h, length-append body r', length-append (zeroed x a) r, ap length (al.rests body r r' s h))) h).0

pub spells_split : (y : List ℤ) (b c : List Slot) (body : List ℕ) → Spells y (b ++ c) body
    → (front rest : List ℕ) × (body ≡ front ++ rest) × Spells y b front × Spells y c rest
spells_split y [] c body s = ([], body, refl, refl, s)
spells_split y (Number k kind caps ∷ b) c body s =
    let t = spells_split y b c s.0 s.2 in
    (code kind (get_or y k (pos 0)) ++ t.0, t.1, rw (append_assoc, ← t.2) s.1, (t.0, refl, t.3), t.4)
spells_split y (Constant kind z ∷ b) c body s =
    let t = spells_split y b c s.0 s.2 in
    (code kind z ++ t.0, t.1, rw (append_assoc, ← t.2) s.1, (t.0, refl, t.3), t.4)
spells_split y (Filler n ∷ b) c body s =
    let t = spells_split y b c s.1 s.4 in
    (s.0 ++ t.0, t.1, rw (append_assoc, ← t.2) s.3, (s.0, t.0, s.2, refl, t.3), t.4)
spells_split y (Rule r ∷ b) c body s = spells_split y b c body s

-- the rest after the first of two parts
pub behind_first : (x : List ℤ) (a c : List Slot) (front rest r r' : List ℕ) → (front ++ rest) ++ r' ≡ zeroed x (a ++ c) ++ r
    → front ++ (rest ++ r') ≡ zeroed x a ++ (zeroed x c ++ r)
behind_first x a c front rest r r' h = rw (append_assoc front rest r', zeroed_append, append_assoc (zeroed x a) (zeroed x c) r) at h

-- ---- slots

aligns_sized : (x : List ℤ) (a : List Slot) (y : List ℤ) (b : List Slot) → ((body : List ℕ) → Spells y b body → length body ≡ length (zeroed x a))
    → Aligns x a y b
aligns_sized x a y b long = record { rests = λ body r r' s h. (apart body _ r r' (long body s) h).1 }

pub aligns_nil : (x y : List ℤ) → Aligns x [] y []
aligns_nil x y = aligns_sized x [] y [] (λ body s. ap length s)

pub aligns_append : (x y : List ℤ) (a b c d : List Slot) → Aligns x a y b → Aligns x c y d → Aligns x (a ++ c) y (b ++ d)
aligns_append x y a b c d p q = record {
  rests = λ body r r' s h.
      let t = spells_split y b d body s in
      q.rests t.1 r r' t.4 (p.rests t.0 _ _ t.3 (behind_first x a c t.0 t.1 r r' (rw t.2 at h)));
}

code_alone : (kind : Kind) (z : ℤ) (body rest : List ℕ) → body ≡ code kind z ++ rest → rest ≡ [] → length body ≡ width kind
code_alone kind z body rest e f = omega (arith, ap length e, length-append (code kind z) rest, length-code kind z, ap length f)

pub aligns_number : (x y : List ℤ) (c d : ℕ) (k l : Kind) (p q : List ℕ) → k ≡ l → Aligns x (Number c k p ∷ []) y (Number d l q ∷ [])
aligns_number x y c d k l p q e = aligns_sized x _ y _ (λ body s. code_alone l _ body s.0 s.1 s.2 ∙ ap width (sym e) ∙ sym (code_alone k _ _ [] refl refl))

pub aligns_constant : (x y : List ℤ) (k l : Kind) (z u : ℤ) → k ≡ l → Aligns x (Constant k z ∷ []) y (Constant l u ∷ [])
aligns_constant x y k l z u e = aligns_sized x _ y _ (λ body s. rw (code_alone l u body s.0 s.1 s.2, code_alone k z _ [] refl refl, e))

pub aligns_filler : (x y : List ℤ) (a : List Slot) (n : ℕ) → length (zeroed x a) ≡ n → Aligns x a y (Filler n ∷ [])
aligns_filler x y a n e = aligns_sized x a y _ (λ body s. omega (arith, ap length s.3, length-append s.0 s.1, ap length s.4))

pub aligns_rule : (x y : List ℤ) (r s : Bool) → Aligns x (Rule r ∷ []) y (Rule s ∷ [])
aligns_rule x y r s = aligns_sized x _ y _ (λ body t. ap length t)
