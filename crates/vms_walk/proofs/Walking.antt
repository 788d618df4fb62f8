-- The slots of a walk: taken apart at one of them, what steps keep of the numbers, and on which
-- cells slots depend.
use Rattle.vms_walk.proofs.Facade
use Facade.{◌≡◌, ℕ, zero, suc, ◌+◌, ◌*◌, ◌<◌, List, [], ◌∷◌, ◌++◌, length, get_or, take, ℤ, sym, ap, ◌∙◌, arith}
use Facade.{append_assoc, append-nil, ◌≤◌, drop, refl, false, Option, drop_more, Field, Slot, Meaning, times, field_slots, slots_from, field_cells}
use Facade.{place_of, no_field, item_slots, item_size, capacity_of, counted, cells_in, steps_of, present_of, capacities_of, Item, Num, field_size, elements_fit}
use Facade.{room_for_less, least_of, WalkStep, IsErrAnd, Result, Ok, Err, Does, IsWalk, length-set, slice_set, pos, ◌==◌, ◌||◌, get_or-set_other}
use Facade.{eq-eqb, or_parts, Kind, Number, has_step, Keeps, table, slice_get-get_or, Part, Desc, Set, has_cell, numbers_of, IsSound, IsSoundField}
use Facade.{AreSoundFields, IsGood, SameBelow, same_less, place_next, own_same, there_same, elements_same, IsAbove, SameIn, MeanSettled, item_settled}
use Facade.{field_settled, meanings_settled, device_at, HasPart, desc_at, sub_at, if_both}
use Rattle.vms_walk.specs.Inside.{is_for}
use Rattle.std.proofs.lemmas.List.Folds.{list_any-append}
use Rattle.vms_spec.specs.Layout as slots
use Rattle.vms_spec.specs.declared.Part.TheVariants as parts
use Rattle.std.proofs.lemmas.Result.{err_from_is_err_and}

-- ---- elements

pub times_more : {B : Type 0} (i : ℕ) (part : ℕ → List B) (at step : ℕ) → times (i + 1) part at step ≡ times i part at step ++ part (at + i * step)
times_more zero part at step = let e : at + zero * step ≡ at = grind arith in rw e (append-nil (part at))
times_more (suc i) part at step =
    let e : (at + step) + i * step ≡ at + suc i * step = grind arith in
    let one : suc i + 1 ≡ suc (i + 1) = omega arith in
    rw (one, times_more i part (at + step) step, e) (sym (append_assoc (part at) (times i part (at + step) step) (part (at + suc i * step))))

-- the elements before element i, it, and the others
pub times_split : {B : Type 0} (n i : ℕ) (part : ℕ → List B) (at step : ℕ) → i < n
    → (rest : List B) × (times n part at step ≡ times i part at step ++ (part (at + i * step) ++ rest))
times_split zero i part at step lt = absurd (omega arith)
times_split (suc n) zero part at step lt = let e : at + zero * step ≡ at = grind arith in (times n part (at + step) step, rw e)
times_split (suc n) (suc i) part at step lt =
    let more = times_split n i part (at + step) step (omega arith) in
    let e : (at + step) + i * step ≡ at + suc i * step = grind arith in (
      more.0,
      rw (more.1, e)
          (sym (append_assoc (part at) (times i part (at + step) step) (part (at + suc i * step) ++ more.0))),
    )

-- ---- fields

module _ (ms : List Meaning) (fields : List Field) (v : ℕ) (own : ℕ → ℕ) (n : List ℤ) where
  -- the fields before field i, it, and the others
  pub fields_split : (fs : List Field) (j at i k : ℕ) → k ≡ j + i → i < length fs → (rest : List Slot) × (slots_from ms fields v own n j at fs
      ≡ slots_from ms fields v own n j at (take i fs)
      ++ (field_slots ms fields v own n k (place_of (cells_in ms) fields j at fs i) (get_or fs i no_field) ++ rest))
  fields_split [] j at i k e lt = absurd (omega arith)
  fields_split (f ∷ fs) j at zero k e lt =
      let same : j ≡ k = omega arith in
      (slots_from ms fields v own n (suc j) (at + length (field_cells (cells_in ms) fields j f)) fs, rw same)
  fields_split (f ∷ fs) j at (suc i) k e lt =
      let next = at + length (field_cells (cells_in ms) fields j f) in
      let more = fields_split fs (suc j) next i k (omega arith) (omega arith) in (
        more.0,
        rw (more.1) (sym (append_assoc (field_slots ms fields v own n j at f) (slots_from ms fields v own n (suc j) next (take i fs)) _)),
      )

  pub fields_more : (fs : List Field) (j at i k : ℕ) → k ≡ j + i → i < length fs → slots_from ms fields v own n j at (take (i + 1) fs)
      ≡ slots_from ms fields v own n j at (take i fs) ++ field_slots ms fields v own n k (place_of (cells_in ms) fields j at fs i) (get_or fs i no_field)
  fields_more [] j at i k e lt = absurd (omega arith)
  fields_more (f ∷ fs) j at zero k e lt =
      let same : j ≡ k = omega arith in
      rw (← same) (append-nil (field_slots ms fields v own n j at f))
  fields_more (f ∷ fs) j at (suc i) k e lt =
      let one : suc i + 1 ≡ suc (i + 1) = omega arith in
      let next = at + length (field_cells (cells_in ms) fields j f) in
      rw (one, fields_more fs (suc j) next i k (omega arith) (omega arith))
      (sym (append_assoc (field_slots ms fields v own n j at f) (slots_from ms fields v own n (suc j) next (take i fs)) _))

-- ---- The slots of fields and elements, one after the other.

pub steps_append : (xs ys : List Slot) → steps_of (xs ++ ys) ≡ steps_of xs ++ steps_of ys
steps_append [] ys = refl
steps_append (x ∷ xs) ys = rw (steps_append xs ys)

-- what remains of some of the steps remains of all
pub left_within : (before here rest whole ys ws zs : List WalkStep) (x : WalkStep) → whole ≡ before ++ (here ++ rest) → here ≡ ys ++ (ws ++ (x ∷ zs))
    → whole ≡ (before ++ ys) ++ (ws ++ (x ∷ (zs ++ rest)))
left_within before here rest whole ys ws zs x e f = rw (e, f) (simp append_assoc)

-- a part among others
pub steps_parts : (before here rest whole : List Slot) → whole ≡ before ++ (here ++ rest) → steps_of whole ≡ steps_of before ++ (steps_of here ++ steps_of rest)
steps_parts before here rest whole e = rw (e, steps_append before (here ++ rest), steps_append here rest)

-- ---- the least of the capacities that a number counts is enough

pub least_again : (o : Option ℕ) → least_of (capacities_of o) ≡ o
least_again o = grind arith

pub steps_bare : (ms : List Meaning) (n : List ℤ) (item : Item) (caps : List ℕ) (k at step : ℕ)
    → steps_of (times k (item_slots ms item caps n) at step) ≡ steps_of (times k (item_slots ms item (capacities_of (least_of caps)) n) at step)
steps_bare ms n (Num kind) caps (suc k) at step = rw (steps_bare ms n (Num kind) caps k (at + step) step, least_again (least_of caps))
steps_bare ms n _ caps k at step = refl

-- ---- the next field

-- the field's slots, and those of the fields after it, `size` cells on
pub slots_next : (ms : List Meaning) (fields : List Field) (v : ℕ) (own : ℕ → ℕ) (n : List ℤ) (i at size : ℕ) (f : Field) (left more : List Field)
    → left ≡ f ∷ more → size ≡ capacity_of f.count * item_size (cells_in ms) f.item
    → slots_from ms fields v own n i at left ≡ field_slots ms fields v own n i at f ++ slots_from ms fields v own n (i + 1) (at + size) more
slots_next ms fields v own n i at size f left more e s = grind (arith, field_size)

-- the elements that are there, or none
pub present_slots : (ms : List Meaning) (fields : List Field) (v : ℕ) (own : ℕ → ℕ) (n : List ℤ) (i at : ℕ) (f : Field)
    → field_slots ms fields v own n i at f ≡ times (present_of f v own) (item_slots ms f.item (counted i fields) n) at (item_size (cells_in ms) f.item)
present_slots ms fields v own n i at f = grind (arith, times, counted)

pub present_fits : (f : Field) (v : ℕ) (own : ℕ → ℕ) → present_of f v own ≤ capacity_of f.count
present_fits f v own = grind (arith, if_both, elements_fit)

-- the rest of the fields, at a field
pub fields_at : (all : List Field) (i : ℕ) → i < length all → drop i all ≡ get_or all i no_field ∷ drop (i + 1) all
fields_at all i lt = drop_more all i no_field lt

pub room_at : (turn count size first cell most : ℕ) → turn < count → cell ≡ first + turn * size → first + count * size ≤ most → cell + size ≤ most
room_at turn count size first cell most lt e h = grind (arith, room_for_less)

-- ---- What steps keep of the numbers, one after the other.

pub has_append : (xs ys : List WalkStep) (c : ℕ) → has_step (xs ++ ys) c ≡ (has_step xs c || has_step ys c)
has_append xs ys c = list_any-append (is_for c) xs ys

-- no number is put
pub keeps_same : (xs : List WalkStep) (n m : List ℤ) → m ≡ n → Keeps xs n m
keeps_same xs n m e = record { long = ap length e; same = λ c h. rw e }

-- steps and further ones
pub keeps_more : (xs ys : List WalkStep) (n m k : List ℤ) → Keeps xs n m → Keeps ys m k → Keeps (xs ++ ys) n k
keeps_more xs ys n m k p q = record {
  long = q.long ∙ p.long;
  same = λ c e. let none = or_parts (has_step xs c) (has_step ys c) (sym (has_append xs ys c) ∙ e) in q.same c none.1 ∙ p.same c none.0;
}

-- the first few steps
pub keeps_front : (xs ys : List WalkStep) (n m : List ℤ) → Keeps xs n m → Keeps (xs ++ ys) n m
keeps_front xs ys n m p = keeps_more _ _ _ _ _ p (keeps_same _ _ _ refl)

-- a number is put
pub keeps_put : (cell : ℕ) (kind : Kind) (most : Option ℕ) (n : List ℤ) (z : ℤ) → Keeps (Number cell kind most ∷ []) n (slice_set n cell z)
keeps_put cell kind most n z = record {
  long = length-set n cell z;
  same = λ c e.
      get_or-set_other n cell c z (pos 0) (λ f. let t = eq-eqb cell c (sym f) in let u = or_parts (cell == c) false e in cc (u.0));
}

-- ---- the slots up to a place depend only on the cells below it: what steps keep

pub has_step_of : (xs : List Slot) (c : ℕ) → has_step (steps_of xs) c ≡ has_cell xs c
has_step_of [] c = refl
has_step_of (slots.Number k kind caps ∷ xs) c = rw (has_step_of xs c)
has_step_of (_ ∷ xs) c = has_step_of xs c

pub keeps_below : (cell : ℕ) (xs : List Slot) (n m : List ℤ) → IsAbove cell xs → Keeps (steps_of xs) n m → SameBelow cell n m
keeps_below cell xs n m above k = record { same = λ c lt. k.same c (has_step_of xs c ∙ above.below c lt) }

-- the same, after the first few steps
pub keeps_first : (cell : ℕ) (xs : List Slot) (ys zs : List WalkStep) (n m : List ℤ) → steps_of xs ≡ ys ++ zs → IsAbove cell xs → Keeps ys n m
    → SameBelow cell n m
keeps_first cell xs ys zs n m e above k = record {
  same = λ c lt. k.same c
      (or_parts (has_step ys c) (has_step zs c) (sym (has_append ys zs c) ∙ ap (λ l. has_step l c) (sym e) ∙ has_step_of xs c ∙ above.below c lt)).0;
}

-- ---- What is done at steps, piece by piece.

-- Wherever the walker is among these steps, each remaining one may come.
abbrev pub MayStep : {S F : Type 0} → Does S F → (S → List ℤ) → (S → WalkStep → Type 0) → (List ℤ → List WalkStep) → S → Type 0
MayStep {S} {F} does N lets all a = (xs ys rest : List WalkStep) (x : WalkStep) (b : S) → does xs a (Ok tt) b → all (N b) ≡ xs ++ (ys ++ (x ∷ rest)) → lets b x

-- the steps in front are done, from `a` to `b`, and the next ones are `here`; up to their end they are `upto`, and all of them are `whole`;
-- each by the numbers at its end
pub record Among {S F : Type 0} (N : S → List ℤ) (does : Does S F) (whole upto front here : List ℤ → List WalkStep) (a b : S) : Type 0 where
  pub way : (n : List ℤ) (ys zs : List WalkStep) → here n ≡ ys ++ zs → Keeps ys (N b) n → does (front n) a (Ok tt) b
  pub more : (n : List ℤ) → upto n ≡ front n ++ here n
  pub split : (n : List ℤ) → (rest : List WalkStep) × (whole n ≡ front n ++ (here n ++ rest))

module _ {S F : Type 0} {N : S → List ℤ} {does : Does S F} (laws : IsWalk N does) {whole upto front here : List ℤ → List WalkStep} {a b : S}
    (at : Among N does whole upto front here a b) where
  reached : (c : S) (r : Result (Unit {0}) F) → does (here (N c)) b r c → does (front (N c)) a (Ok tt) b
  reached c r h = at.way (N c) (here (N c)) [] (sym (append-nil (here (N c)))) (laws.keeps (here (N c)) b c r h)

  pub went_on : (c : S) (r : Result (Unit {0}) F) → does (here (N c)) b r c → does (upto (N c)) a r c
  went_on c r h = rw (at.more (N c)) (laws.more (front (N c)) (here (N c)) a b c r (reached c r h) h)

  pub stopped_at : (c : S) (f : F) (r : Result (Unit {0}) F) → IsErrAnd r (λ x. x ≡ f) → does (here (N c)) b (Err f) c → does (whole (N c)) a r c
  stopped_at c f r e h =
      let parts = at.split (N c) in
      let p = err_from_is_err_and r e in
      rw (p.1, p.2) (rw parts.1 (laws.more (front (N c)) (here (N c) ++ parts.0) a b c (Err f) (reached c (Err f) h) (laws.before (here (N c)) parts.0 b c f h)))

  pub may_come : (lets : S → WalkStep → Type 0) → MayStep does N lets whole a → MayStep does N lets here b
  may_come lets all ys ws zs x d h e =
      let parts = at.split (N d) in
      let way = at.way (N d) ys (ws ++ (x ∷ zs)) e (laws.keeps ys b d (Ok tt) h) in
      all (front (N d) ++ ys) ws (zs ++ parts.0) x d (laws.more (front (N d)) ys a b d (Ok tt) way h)
      (left_within _ _ _ _ _ _ _ _ parts.1 e)

-- ---- the slots up to a place, by the numbers below it

pub in_below : (cell : ℕ) (n m : List ℤ) → SameBelow cell n m → SameIn 0 cell n m
in_below cell n m s = record { same = λ c up lt. s.same c lt }

-- ---- elements

pub items_local : (ms : List Meaning) → MeanSettled ms → (item : Item) (caps : List ℕ) (i at : ℕ) (n m : List ℤ)
    → SameBelow (at + i * item_size (cells_in ms) item) n m
    → times i (item_slots ms item caps m) at (item_size (cells_in ms) item) ≡ times i (item_slots ms item caps n) at (item_size (cells_in ms) item)
items_local ms h item caps zero at n m s = refl
items_local ms h item caps (suc i) at n m s =
    let size = item_size (cells_in ms) item in
    let e : at + suc i * size ≡ (at + size) + i * size = grind arith in
    let t = rw e at s in
    rw (
      item_settled ms h item caps at 0 (at + size) n m (omega arith) (omega arith)
          (in_below (at + size) n m (same_less (at + size) ((at + size) + i * size) n m (omega arith) t)),
      items_local ms h item caps i (at + size) n m t,
    )

-- ---- fields

pub sound_at : (fields : List Field) (j : ℕ) (fs : List Field) (i k : ℕ) → k ≡ j + i → AreSoundFields fields j fs → i < length fs
    → IsSoundField fields k (get_or fs i no_field)
sound_at fields j [] i k e h lt = absurd (omega arith)
sound_at fields j (f ∷ fs) zero k e h lt = let same : j ≡ k = omega arith in rw same at h.0
sound_at fields j (f ∷ fs) (suc i) k e h lt = sound_at fields (suc j) fs i k (omega arith) h.1 (omega arith)

module _ (ms : List Meaning) (settled : MeanSettled ms) (d : Desc) (sound : IsSound d) (v base : ℕ) where
  abbrev place : ℕ → ℕ
  place i = place_of (cells_in ms) d.fields 0 base d.fields i

  pub next_place : (i : ℕ) → i < length d.fields
      → place_of (cells_in ms) d.fields 0 base d.fields (i + 1) ≡ place_of (cells_in ms) d.fields 0 base d.fields i + length
      (field_cells (cells_in ms) d.fields i (get_or d.fields i no_field))
  next_place i lt =
      let z : 0 + i ≡ i = omega arith in
      let one : i + 1 ≡ suc i = omega arith in
      rw one (rw z at (place_next (cells_in ms) d.fields 0 base d.fields i (get_or d.fields i no_field) (drop (i + 1) d.fields) (drop_more d.fields i no_field lt)))

  pub field_local : (i : ℕ) (n m : List ℤ) → i < length d.fields → SameBelow (place_of (cells_in ms) d.fields 0 base d.fields (i + 1)) n m
      → field_slots ms d.fields v (numbers_of (cells_in ms) d m base) m i (place_of (cells_in ms) d.fields 0 base d.fields i) (get_or d.fields i no_field)
      ≡ field_slots ms d.fields v (numbers_of (cells_in ms) d n base) n i (place_of (cells_in ms) d.fields 0 base d.fields i) (get_or d.fields i no_field)
  field_local i n m lt s =
      let next = next_place i lt in
      field_settled ms settled d v base i (place i) 0 (place (i + 1)) (get_or d.fields i no_field) n m
      (sound_at d.fields 0 d.fields i i (omega arith) sound.fields lt) (omega arith) refl (omega arith) (in_below (place (i + 1)) n m s)

  pub fields_local : (i : ℕ) (n m : List ℤ) → i ≤ length d.fields → SameBelow (place_of (cells_in ms) d.fields 0 base d.fields i) n m
      → slots_from ms d.fields v (numbers_of (cells_in ms) d m base) m 0 base (take i d.fields) ≡ slots_from ms d.fields v
      (numbers_of (cells_in ms) d n base) n 0 base (take i d.fields)
  fields_local zero n m le s = refl
  fields_local (suc i) n m le s =
      let one : suc i ≡ i + 1 = omega arith in
      let lt : i < length d.fields = omega arith in
      let own = λ (x : List ℤ). numbers_of (cells_in ms) d x base in
      let up = rw one at s in
      let next = next_place i lt in
      let whole = λ (x : List ℤ). fields_more ms d.fields v (own x) x d.fields 0 base i i (omega arith) lt in
      rw (one, whole m, whole n, (fields_local i n m (omega arith) (same_less _ _ _ _ (omega arith) up)), field_local i n m lt up)

  -- how many elements of field i are there
  pub present_local : (i : ℕ) (n m : List ℤ) → i < length d.fields → SameBelow (place_of (cells_in ms) d.fields 0 base d.fields i) n m
      → present_of (get_or d.fields i no_field) v (numbers_of (cells_in ms) d m base) ≡ present_of (get_or d.fields i no_field) v
      (numbers_of (cells_in ms) d n base)
  present_local i n m lt s = grind (arith, numbers_of, sound_at, own_same, there_same, elements_same)

-- ---- sound parts

pub part_sound : (set : Set) → IsGood set → (part : Part) → HasPart set part → IsSound (desc_at set part)
part_sound set g parts.Set h = absurd h
part_sound set g (parts.Struct j) h = g.structs j h
part_sound set g (parts.Device i) h = g.devices i (device_at set i) (slice_get-get_or _ _ _ h)
part_sound set g (parts.Sub i j) h =
    g.subs i j (device_at set i) (sub_at (device_at set i) j) (slice_get-get_or _ _ _ h.0) (slice_get-get_or _ _ _ h.1)

pub set_settled : (set : Set) → IsGood set → MeanSettled (table set)
set_settled set g = meanings_settled _ g.structs _ (omega arith)
