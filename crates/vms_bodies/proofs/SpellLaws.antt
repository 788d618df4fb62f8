-- Bodies that are read: what was taken is spelled by its slots, and reading slot by slot gives the
-- same.
use Rattle.vms_bodies.proofs.Facade
use Facade.{IsCell, AreCells, ◌≡◌, ◌≢◌, ℕ, ◌+◌, ◌≤◌, ◌≤ℤ◌, List, ◌∷◌, ◌++◌, length, get_or, take, slice_set, ℤ, pos}
use Facade.{refl, sym, ap, ◌∙◌, arith, append_assoc, append-nil, length-append, true, false, not, nat_lt, ◌==◌, get_or-set_other, [], AllByRecursion}
use Facade.{take-append-drop, length-take-le, length-set, not-not, ltb-false, eq-eqb, or_parts, big_number, Kind, width, value_of, code, InRange, IsBadBool}
use Facade.{value_taken, bytes_first, bytes_rest, IsBytes, is_bad_bool, exceeds, same_number, Slot, Number, Constant, Filler, Rule, Cell, Spells, RulesHold}
use Facade.{has_cell, Progress, Refusal, on, take_slot, same_number_is, within_all, Ok, Desc, meanings, desc_slots, desc_cells, takers, cells_of, take_desc}
use Facade.{IsSound, AreSound, suc, drop, Err, drop-append_seam, Taken, zero, ◌<◌, Some, slice_get, Option, length-drop, Verdict, Goes, Reading}
use Facade.{reading_from, reading_after, reading_on, Advances}
use Rattle.vms_bodies.proofs.Places.{SameBelow, same_refl, same_less, none_in_both}
use Rattle.vms_bodies.proofs.WalkLaws.{Left, Gives, IsOther, Keeping, whole_gives, value_gives, ComesTo, set_desc_comes}
use Rattle.std.proofs.Common.{get_or-set_same, drop_at}
use Rattle.vms_kinds.specs.declared.Kind.TheVariants.{Bool}
use Rattle.vms_spec.specs.declared.Reason.TheVariants as reasons

-- ---- a number's bytes

pub value_law : (kind : Kind) (bs : List ℕ) → length bs ≡ width kind → IsBytes bs → is_bad_bool kind bs ≡ false
    → InRange kind (value_of kind bs) × (bs ≡ code kind (value_of kind bs))
value_law kind bs len ok good = value_taken _ _ len ok (not_bad kind good)
  where
    not_bad : (kind : Kind) → is_bad_bool kind bs ≡ false → IsBadBool kind bs → ⊥
    not_bad Bool good x = omega (arith, ltb-false 1 (big_number 1 bs) good)
    not_bad _ good x = let e = x.0 in cc

-- ---- lists of slots

pub spells_append : (m : List ℤ) (xs ys : List Slot) (a b : List ℕ) → Spells m xs a → Spells m ys b → Spells m (xs ++ ys) (a ++ b)
spells_append m [] ys a b p q = rw p q
spells_append m (Filler n ∷ xs) ys a b p q = (p.0, p.1 ++ b, p.2, rw (p.3, append_assoc) refl, spells_append m xs ys p.1 b p.4 q)
spells_append m (Rule r ∷ xs) ys a b p q = spells_append m xs ys a b p q
spells_append m (_ ∷ xs) ys a b p q = (p.0 ++ b, rw (p.1, append_assoc) refl, spells_append m xs ys p.0 b p.2 q)

-- each number fits its kind and the capacities that it counts, and each constant its kind
abbrev pub FitSlots : List ℤ → List Slot → Type 0
FitSlots m [] = Unit {0}
FitSlots m (Number c kind caps ∷ slots) = InRange kind (get_or m c (pos 0)) × AllByRecursion (λ most. get_or m c (pos 0) ≤ℤ pos most) caps × FitSlots m slots
FitSlots m (Constant kind z ∷ slots) = InRange kind z × FitSlots m slots
FitSlots m (_ ∷ slots) = FitSlots m slots

pub fit_append : (m : List ℤ) (xs ys : List Slot) → FitSlots m xs → FitSlots m ys → FitSlots m (xs ++ ys)
fit_append m [] ys p q = q
fit_append m (Number c kind caps ∷ xs) ys p q = (p.0, p.1, fit_append m xs ys p.2 q)
fit_append m (Constant kind z ∷ xs) ys p q = (p.0, fit_append m xs ys p.1 q)
fit_append m (_ ∷ xs) ys p q = fit_append m xs ys p q

pub rules_append : (xs ys : List Slot) → RulesHold xs → RulesHold ys → RulesHold (xs ++ ys)
rules_append [] ys p q = q
rules_append (Rule b ∷ xs) ys p q = (p.0, rules_append xs ys p.1 q)
rules_append (_ ∷ xs) ys p q = rules_append xs ys p q

pub cell_in : (all : List Cell) (xs ys : List Slot) (c : ℕ) (kind : Kind) (caps : List ℕ) → AreCells all (xs ++ Number c kind caps ∷ ys)
    → IsCell all c kind caps
cell_in all [] ys c kind caps p = p.0
cell_in all (Number a k b ∷ xs) ys c kind caps p = cell_in all xs ys c kind caps p.1
cell_in all (_ ∷ xs) ys c kind caps p = cell_in all xs ys c kind caps p

-- ---- what holds of what was taken

-- the bytes so far are those of the slots done, for all numbers that are the same below the cell
pub record Spelled (start : Progress) (cell : ℕ) (done : List Slot) (q : Progress) : Type 0 where
  pub bytes : List ℕ
  pub front : start.rest ≡ bytes ++ q.rest
  pub place : q.place ≡ start.place + length bytes
  pub spells : (m : List ℤ) → SameBelow cell q.numbers m → Spells m done bytes
  pub fits : (m : List ℤ) → SameBelow cell q.numbers m → FitSlots m done
  pub rules : RulesHold done
  pub long : length q.numbers ≡ length start.numbers
  pub kept : (c : ℕ) → has_cell done c ≡ false → get_or q.numbers c (pos 0) ≡ get_or start.numbers c (pos 0)

abbrev pub Anything : Refusal → Type 0
Anything e = Unit {0}

pub set_other : (xs : List ℤ) (c cell : ℕ) (z : ℤ) → c ≢ cell → get_or (slice_set xs cell z) c (pos 0) ≡ get_or xs c (pos 0)
set_other xs c cell z ne = rw get_or-set_other

-- one slot more: its bytes, and what it changes
record Adds (cell further : ℕ) (slot : Slot) (bytes : List ℕ) (p q : Progress) : Type 0 where
  front : p.rest ≡ bytes ++ q.rest
  place : q.place ≡ p.place + length bytes
  long : length q.numbers ≡ length p.numbers
  below : (m : List ℤ) → SameBelow further q.numbers m → SameBelow cell p.numbers m
  spells : (m : List ℤ) → SameBelow further q.numbers m → Spells m (slot ∷ []) bytes
  fits : (m : List ℤ) → SameBelow further q.numbers m → FitSlots m (slot ∷ [])
  rules : RulesHold (slot ∷ [])
  kept : (c : ℕ) → has_cell (slot ∷ []) c ≡ false → get_or q.numbers c (pos 0) ≡ get_or p.numbers c (pos 0)

module _ (all : List Cell) (total : List ℤ → List Slot) (start : Progress) where
  added : {cell further : ℕ} {slot : Slot} {bytes : List ℕ} {p q : Progress} (done : List Slot) → Spelled start cell done p → Adds cell further slot bytes p q
      → Spelled start further (done ++ slot ∷ []) q
  added {bytes = bytes} done h a = record {
    bytes = h.bytes ++ bytes;
    front = rw (append_assoc, ← a.front) h.front;
    place = omega (arith, length-append h.bytes bytes);
    spells = λ m s. spells_append m done _ _ bytes (h.spells m (a.below m s)) (a.spells m s);
    fits = λ m s. fit_append m done _ (h.fits m (a.below m s)) (a.fits m s);
    rules = rules_append done _ h.rules a.rules;
    long = cc;
    kept = λ c e. let n = none_in_both c done _ e in a.kept c n.1 ∙ h.kept c n.0;
  }

  -- a slot without a cell
  plain : {cell : ℕ} (n : ℕ) (slot : Slot) (done : List Slot) (p : Progress) → length (take n p.rest) ≡ n → Spelled start cell done p
      → ((m : List ℤ) → Spells m (slot ∷ []) (take n p.rest)) → ((m : List ℤ) → FitSlots m (slot ∷ [])) → RulesHold (slot ∷ [])
      → Gives total (Spelled start) Anything cell (done ++ slot ∷ []) (on n p.numbers p)
  plain n slot done p len h spells fits rules =
      added done h (record {
        front = sym (take-append-drop n p.rest);
        place = omega arith;
        long = refl;
        below = λ m s. s;
        spells = λ m s. spells m;
        fits = λ m s. fits m;
        rules = rules;
        kept = λ c e. refl;
      })

  pub spelled_less : (cell further : ℕ) (done : List Slot) (p : Progress) → cell ≤ further → Spelled start cell done p → Spelled start further done p
  spelled_less cell further done p le h = search (arith, same_less)

  module _ (ok : IsBytes start.rest) where
    -- the next unit is the code of its number
    value_here : {cell : ℕ} {done : List Slot} {p : Progress} (kind : Kind) → Spelled start cell done p → nat_lt (length p.rest) (width kind) ≡ false
        → is_bad_bool kind (take (width kind) p.rest) ≡ false
        → InRange kind (value_of kind (take (width kind) p.rest)) × (take (width kind) p.rest ≡ code kind (value_of kind (take (width kind) p.rest)))
    value_here {p = p} kind h e good =
        value_law _ _ (length-take-le (width kind) p.rest (ltb-false _ _ e)) (bytes_first _ p.rest (bytes_rest _ p.rest (rw (h.front) at ok))) good

    number_spelled : length all ≤ length start.numbers → ((m : List ℤ) → AreCells all (total m)) → (cell : ℕ) (kind : Kind) (caps : List ℕ) (done : List Slot)
        → (left : List ℤ → List Slot) (p : Progress) → Left total (Spelled start) Anything cell p done (λ m. Number cell kind caps ∷ left m)
        → Gives total (Spelled start) Anything (cell + 1) (done ++ Number cell kind caps ∷ []) (take_slot (Number cell kind caps) p)
    number_spelled room cells cell kind caps done left p l =
        let h = l.holds in
        let z = value_of kind (take (width kind) p.rest) in
        value_gives (Gives total (Spelled start) Anything (cell + 1) (done ++ Number cell kind caps ∷ [])) p (λ reason n. tt) kind reasons.CountTooLarge
        (exceeds caps) (slice_set p.numbers cell) (λ e1 e2 e3.
        let law = value_here kind h e1 e2 in
        let is : IsCell all cell kind caps = cell_in all done _ cell kind caps (rw (l.split p.numbers (same_refl cell p.numbers)) at (cells p.numbers)) in
        let here : (m : List ℤ) → SameBelow (cell + 1) (slice_set p.numbers cell z) m → get_or m cell (pos 0) ≡ z = λ m s.
        s.same cell (omega arith) ∙ get_or-set_same p.numbers cell z (pos 0) (omega arith) in
        added done h (record {
          front = sym (take-append-drop (width kind) p.rest);
          place = omega (arith, length-take-le (width kind) p.rest (ltb-false _ _ e1));
          long = length-set p.numbers cell z;
          below = λ m s. record { same = λ c lt. s.same c (omega arith) ∙ set_other p.numbers c cell z (omega arith) };
          spells = λ m s. ([], rw (here m s, append-nil) law.1, refl);
          fits = λ m s. (rw (here m s) law.0, rw (here m s) (within_all caps z e3), tt);
          rules = tt;
          kept = λ c e. set_other p.numbers c cell z (λ same. let f = eq-eqb cell c (sym same) in let g = or_parts (cell == c) false e in cc (g.0));
        }))

    other_spelled : (cell : ℕ) (slot : Slot) (done : List Slot) (left : List ℤ → List Slot) (p : Progress) → IsOther total (Spelled start) Anything slot
        → Left total (Spelled start) Anything cell p done (λ m. slot ∷ left m)
        → Gives total (Spelled start) Anything cell (done ++ slot ∷ []) (take_slot slot p)
    other_spelled cell (Number c kind caps) done left p o l = absurd o
    other_spelled cell (Rule false) done left p o l = tt
    other_spelled cell (Rule true) done left p o l =
        added done l.holds (record {
          front = refl;
          place = omega arith;
          long = refl;
          below = λ m s. s;
          spells = λ m s. refl;
          fits = λ m s. tt;
          rules = (refl, tt);
          kept = λ c e. refl;
        })
    other_spelled cell (Filler n) done left p o l =
        whole_gives (Gives total (Spelled start) Anything cell (done ++ Filler n ∷ [])) p (λ reason n. tt) n (on n p.numbers p) (λ e.
        let len = length-take-le n p.rest (ltb-false _ _ e) in
        plain n (Filler n) done p len l.holds (λ m. (take n p.rest, [], len, rw append-nil refl, refl)) (λ m. tt) tt)
    other_spelled cell (Constant kind z) done left p o l =
        value_gives (Gives total (Spelled start) Anything cell (done ++ Constant kind z ∷ [])) p (λ reason n. tt) kind reasons.NotEqual
        (λ y. not (same_number y z)) (λ y. p.numbers) (λ e1 e2 e3.
        let law = value_here kind l.holds e1 e2 in
        let y = value_of kind (take (width kind) p.rest) in
        let same : y ≡ z = same_number_is y z (sym (not-not (same_number y z)) ∙ ap not e3) in
        plain (width kind) (Constant kind z) done p (length-take-le (width kind) p.rest (ltb-false _ _ e1)) l.holds
        (λ m. ([], law.1 ∙ rw (same, append-nil) refl, refl)) (λ m. (rw same at law.0, tt)) tt)

  -- what each slot of a body keeps
  pub spelled_keeps : IsBytes start.rest → length all ≤ length start.numbers → ((m : List ℤ) → AreCells all (total m)) → Keeping total (Spelled start) Anything
  spelled_keeps ok room cells = record {
    less = λ cell further done left p le up l. spelled_less cell _ done p le l.holds;
    number = λ cell kind caps done left p up l. number_spelled ok room cells cell kind caps done left p l;
    other = λ cell slot done left p o up l. other_spelled ok cell slot done left p o l;
  }

  pub spelled_first : (cell : ℕ) → Spelled start cell [] start
  spelled_first cell =
      record { bytes = []; front = refl; place = omega arith; spells = λ m s. refl; fits = λ m s. tt; rules = tt; long = refl; kept = λ c e. refl }

-- ---- what was taken as a description is a body of it

-- from p to q the bytes of a body were taken: its slots are those of all numbers that agree with q's below the end
pub record IsBody (slots : List ℤ → List Slot) (end : ℕ) (p q : Progress) : Type 0 where
  pub bytes : List ℕ
  pub front : p.rest ≡ bytes ++ q.rest
  pub place : q.place ≡ p.place + length bytes
  pub spells : (m : List ℤ) → SameBelow end q.numbers m → Spells m (slots m) bytes
  pub fits : (m : List ℤ) → SameBelow end q.numbers m → FitSlots m (slots m)
  pub rules : (m : List ℤ) → SameBelow end q.numbers m → RulesHold (slots m)
  pub long : length q.numbers ≡ length p.numbers
  pub kept : (m : List ℤ) → SameBelow end q.numbers m → (c : ℕ) → has_cell (slots m) c ≡ false → get_or q.numbers c (pos 0) ≡ get_or p.numbers c (pos 0)

body_of : (slots : List ℤ → List Slot) (end : ℕ) (p q : Progress) → ComesTo slots (Spelled p) Anything end (λ m. []) (Ok q) → IsBody slots end p q
body_of slots end p q c =
    let h = c.1.holds in
    let is : (m : List ℤ) → SameBelow end q.numbers m → slots m ≡ c.0 = λ m s. c.1.split m s ∙ append-nil c.0 in
    record {
      bytes = h.bytes;
      front = h.front;
      place = h.place;
      spells = λ m s. rw (is m s) (h.spells m s);
      fits = λ m s. rw (is m s) (h.fits m s);
      rules = λ m s. rw (is m s) h.rules;
      long = h.long;
      kept = λ m s k e. h.kept k (rw (is m s) at e);
    }

-- a description of a set that is taken has this body
pub body_found : (all : List Cell) (ds : List Desc) → AreSound ds → (d : Desc) (v base : ℕ) (p q : Progress) → IsSound d → IsBytes p.rest
    → length all ≤ length p.numbers → ((m : List ℤ) → AreCells all (desc_slots (meanings ds (length ds)) d v m base))
    → take_desc (takers ds (length ds)) d v base p ≡ Ok q
    → IsBody (λ m. desc_slots (meanings ds (length ds)) d v m base) (base + length (desc_cells (cells_of (takers ds (length ds))) d)) p q
body_found all ds structs d v base p q sound ok room cells e =
    let slots : List ℤ → List Slot = λ m. desc_slots (meanings ds (length ds)) d v m base in
    let c = set_desc_comes slots _ Anything (spelled_keeps all slots p ok room cells) ds structs d v base p sound (λ m. refl)
    (spelled_first all slots p base) in
    body_of slots _ p q (rw e at c.comes)

-- ---- a reading slot by slot, with the slots computed anew after each number, does what the structural reader does

module _ {X : Type 0} (total : List ℤ → List Slot) (R : ℕ → Progress → X) (finish : ℕ → Progress → X) (refused : Refusal → X) where
  abbrev pub after : ℕ → Taken → X
  after i (Ok q) = R (suc i) q
  after i (Err e) = refused e

  abbrev pub step : List Slot → ℕ → Progress → X
  step [] i p = finish i p
  step (slot ∷ slots) i p = after i (take_slot slot p)

  -- with i slots done, the next is judged
  pub record Walks : Type 0 where
    pub walks : (i : ℕ) (p : Progress) → R i p ≡ step (drop i (total p.numbers)) i p

  -- what x is, it stays
  abbrev pub Is : X → ℕ → List Slot → Progress → Type 0
  Is x cell done p = x ≡ R (length done) p

  abbrev pub Refuses : X → Refusal → Type 0
  Refuses x e = x ≡ refused e

  given : (x : X) (cell : ℕ) (done : List Slot) (slot : Slot) (t : Taken) → x ≡ after (length done) t
      → Gives total (Is x) (Refuses x) cell (done ++ slot ∷ []) t
  given x cell done slot (Err e) h = h
  given x cell done slot (Ok q) h =
      let n : suc (length done) ≡ length (done ++ slot ∷ []) = omega (arith, length-append done (slot ∷ [])) in
      rw (← n) h

  one_step : (w : Walks) (x : X) (cell : ℕ) (slot : Slot) (done : List Slot) (left : List ℤ → List Slot) (p : Progress)
      → Left total (Is x) (Refuses x) cell p done (λ m. slot ∷ left m) → x ≡ after (length done) (take_slot slot p)
  one_step w x cell slot done left p l = cc (w.walks (length done) p, l.split p.numbers (same_refl cell _), drop-append_seam done (slot ∷ left p.numbers))

  pub steps_keep : (w : Walks) (x : X) → Keeping total (Is x) (Refuses x)
  steps_keep w x = record {
    less = λ cell further done left p le up l. l.holds;
    number = λ cell kind caps done left p up l. given x (cell + 1) done (Number cell kind caps) _ (one_step w x cell (Number cell kind caps) done left p l);
    other = λ cell slot done left p o up l. given x cell done slot _ (one_step w x cell slot done left p l);
  }

-- ---- the judge, in a body, does what the structural reader does

pub at_set : {A : Type 0} (xs : List A) (k : ℕ) (x : A) → k < length xs → slice_get (slice_set xs k x) k ≡ Some x
at_set [] k x h = absurd (omega arith)
at_set (y ∷ ys) zero x h = refl
at_set (y ∷ ys) (suc k) x h = at_set ys k x (omega arith)

pub set_twice : {A : Type 0} (xs : List A) (k : ℕ) (x y : A) → slice_set (slice_set xs k x) k y ≡ slice_set xs k y
set_twice (z ∷ zs) (suc k) x y = rw (set_twice zs k x y)
set_twice _ _ x y = refl

-- ---- readings: the allowed number of units doesn't matter, if it is enough

-- what is read after a verdict depends only on the reading that goes on from there
after_same : {S : Type 0} (go on : S → ℕ → List ℕ → Option (Reading S)) (at : ℕ) (rest : List ℕ) (v : Verdict S)
    → ((n : ℕ) (next : S) → v ≡ Goes n next → go next (at + n) (drop n rest) ≡ on next (at + n) (drop n rest))
    → reading_after go at rest v ≡ reading_after on at rest v
after_same go on at rest v h = grind arith

pub enough : {S : Type 0} (judge : S → List ℕ → Verdict S) → Advances judge → (m k : ℕ) (state : S) (at : ℕ) (rest : List ℕ)
    → length rest < m → length rest < k → reading_from judge m state at rest ≡ reading_from judge k state at rest
enough judge a (suc m) (suc k) state at rest h i =
    after_same (reading_from judge m) (reading_from judge k) _ _ _ (λ n next e.
    let b = a.goes state rest n next e in
    enough judge a m k next (at + n) (drop n rest) (omega (arith, length-drop n rest)) (omega (arith, length-drop n rest)))
enough judge a _ k state at rest h i = absurd (omega arith)

-- one unit, and the rest
pub one_unit : {S : Type 0} (judge : S → List ℕ → Verdict S) → Advances judge → (state : S) (at : ℕ) (rest : List ℕ)
    → reading_on judge state at rest ≡ reading_after (reading_on judge) at rest (judge state rest)
one_unit judge a state at rest =
    after_same (reading_from judge (length rest)) (reading_on judge) at rest (judge state rest) (λ n next e.
    let b = a.goes state rest n next e in
    enough judge a (length rest) (suc (length (drop n rest))) next (at + n) (drop n rest) (omega (arith, length-drop n rest)) (omega arith))

-- a unit that is spelled is read
pub unit_read : {S : Type 0} (judge : S → List ℕ → Verdict S) → Advances judge → (state next : S) (at : ℕ) (unit rest : List ℕ)
    → judge state (unit ++ rest) ≡ Goes (length unit) next → reading_on judge state at (unit ++ rest) ≡ reading_on judge next (at + length unit) rest
unit_read judge a state next at unit rest e = one_unit judge a _ _ _ ∙ rw (e, drop_at unit rest (length unit) refl) refl
