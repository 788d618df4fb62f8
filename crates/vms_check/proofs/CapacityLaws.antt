-- What is left of a test says the same, and the least capacity that a number counts.
use Rattle.vms_check.proofs.Facade.{◌≡◌, ℕ, Bool, true, refl, sym, ◌∙◌, ◌||◌, and-true, and-false, or-true, or-false, and_parts, Formula}
use Rattle.vms_check.proofs.Facade.{AtLeast, Below, Cell, Not, And, Or, truth, Reduced, Known, Open, not_reduced, and_reduced, or_reduced, reduced, truth_of}
use Rattle.vms_check.proofs.Facade.{Rel, Own, Parent, names_well, nobody, ◌≤◌, List, ◌∷◌, min, Some, None, arith, [], Item, Counted, counted, Field}
use Rattle.vms_check.proofs.Facade.{least_from, zero, suc, AllByRecursion, slice_get, all_right, least_of, absent_hold, bound, greatest, has_room}
use Rattle.vms_check.proofs.PairLaws.{at_every, room_needed}
use Rattle.std.proofs.Common.{not, ◌&&◌}
use Rattle.vms_check.specs.Comparing as comparing

-- ---- reduction keeps truth

module _ (v : ℕ) (own parent : ℕ → ℕ) where
  abbrev holds : Reduced → Bool
  holds r = truth_of r v own parent

  not_holds : (r : Reduced) → holds (not_reduced r) ≡ not (holds r)
  not_holds r = grind arith

  and_holds : (r s : Reduced) → holds (and_reduced r s) ≡ (holds r && holds s)
  and_holds r s = grind (arith, and-true, and-false)

  or_holds : (r s : Reduced) → holds (or_reduced r s) ≡ (holds r || holds s)
  or_holds r s = grind (arith, or-true, or-false)

  reduced_holds_at : (t : Formula) → holds (reduced v t) ≡ truth t v own parent
  reduced_holds_at (AtLeast n) = refl
  reduced_holds_at (Below n) = refl
  reduced_holds_at (Cell whose field mask rel value) = refl
  reduced_holds_at (Not t) = not_holds (reduced v t) ∙ rw (reduced_holds_at t)
  reduced_holds_at (And s t) = and_holds (reduced v s) (reduced v t) ∙ rw (reduced_holds_at s, reduced_holds_at t)
  reduced_holds_at (Or s t) = or_holds (reduced v s) (reduced v t) ∙ rw (reduced_holds_at s, reduced_holds_at t)

pub reduced_holds : (t : Formula) (v : ℕ) (own parent : ℕ → ℕ) → truth_of (reduced v t) v own parent ≡ truth t v own parent
reduced_holds t v own parent = reduced_holds_at v own parent t

-- ---- what holds of the rest of a test

-- if there is a rest
abbrev pub IfOpen : (Formula → Type 0) → Reduced → Type 0
IfOpen P (Known b) = Unit {0}
IfOpen P (Open t) = P t

-- a test has it by its parts
pub record IsByParts (P : Formula → Type 0) : Type 0 where
  pub of_not : (t : Formula) → P t → P (Not t)
  pub of_and : (s t : Formula) → P s → P t → P (And s t)
  pub of_or : (s t : Formula) → P s → P t → P (Or s t)

module _ (P : Formula → Type 0) (parts : IsByParts P) where
  not_open : (r : Reduced) → IfOpen P r → IfOpen P (not_reduced r)
  not_open r h = grind arith

  and_open : (r q : Reduced) → IfOpen P r → IfOpen P q → IfOpen P (and_reduced r q)
  and_open r q h g = grind arith

  or_open : (r q : Reduced) → IfOpen P r → IfOpen P q → IfOpen P (or_reduced r q)
  or_open r q h g = grind arith

  -- where each number that the test may name has it
  pub open_reduced : (ok : ℕ → Bool) → ((field mask : ℕ) (rel : Rel) (value : ℕ) → ok field ≡ true → P (Cell Own field mask rel value))
      → (v : ℕ) (t : Formula) → names_well ok nobody t ≡ true → IfOpen P (reduced v t)
  open_reduced ok has v (AtLeast n) e = tt
  open_reduced ok has v (Below n) e = tt
  open_reduced ok has v (Cell Own field mask rel value) e = has field mask rel value e
  open_reduced ok has v (Cell Parent field mask rel value) e = cc
  open_reduced ok has v (Not t) e = not_open (reduced v t) (open_reduced ok has v t e)
  open_reduced ok has v (And s t) e =
      let p = and_parts (names_well ok nobody s) (names_well ok nobody t) e in
      and_open (reduced v s) (reduced v t) (open_reduced ok has v s p.0) (open_reduced ok has v t p.1)
  open_reduced ok has v (Or s t) e =
      let p = and_parts (names_well ok nobody s) (names_well ok nobody t) e in
      or_open (reduced v s) (reduced v t) (open_reduced ok has v s p.0) (open_reduced ok has v t p.1)

-- ---- the least capacity that a number counts, how large it can be, and for how much there is room: the greatest number

some_least : (m : ℕ) (caps : List ℕ) → least_from (Some m) caps ≡ Some (comparing.least_of m caps)
some_least m [] = refl
some_least m (n ∷ caps) = some_least (min m n) caps

pub bound_some : (item : Item) (caps : List ℕ) (most : ℕ) → Some most ≡ least_of caps → most ≡ bound item caps
bound_some item caps most e = grind (arith, some_least)

pub bound_none : (item : Item) (caps : List ℕ) → None ≡ least_of caps → greatest item ≡ bound item caps
bound_none item caps e = grind (arith, some_least)

pub ruleset bound_laws = (bound_some, bound_none)

-- ---- room

pub all_least : (n m : ℕ) (caps : List ℕ) → n ≤ comparing.least_of m caps → (n ≤ m) × AllByRecursion (λ k. n ≤ k) caps
all_least n m [] h = (h, tt)
all_least n m (k ∷ caps) h = let r = all_least n (min m k) caps h in (omega (arith, r.0), (omega (arith, r.0), r.1))

all_above : (caps : List ℕ) (l n : ℕ) → least_of caps ≡ Some l → n ≤ l → AllByRecursion (λ k. n ≤ k) caps
all_above [] l n e h = tt
all_above (m ∷ caps) l n e h = let is : comparing.least_of m caps ≡ l = cc (some_least m caps) in all_least n m caps (omega arith)

all_none : (caps : List ℕ) (n : ℕ) → least_of caps ≡ None → AllByRecursion (λ k. n ≤ k) caps
all_none [] n e = tt
all_none (m ∷ caps) n e = absurd (cc (some_least m caps))

-- what holds of all capacities that field i counts holds of each
pub counted_at : (P : ℕ → Type 0) (i : ℕ) (fs : List Field) (k : ℕ) (g : Field) (most : ℕ) → slice_get fs k ≡ Some g → g.count ≡ Counted i most
    → AllByRecursion P (counted i fs) → P most
counted_at P i [] k g most there is h = cc
counted_at P i (f ∷ fs) zero g most there is h = grind arith
counted_at P i (f ∷ fs) (suc k) g most there is h = counted_at P i fs k g most there is (all_right P _ (counted i fs) h)

all_hold : (fields : List Field) (v i n : ℕ) → AllByRecursion (λ k. n ≤ k) (counted i fields) → absent_hold v i n fields ≡ true
all_hold fields v i n h =
    at_every (λ (g : Field). has_room v i n g g.count) fields
    (λ k g there. room_needed v i n g g.count (λ most absent is. counted_at (λ m. n ≤ m) i fields k g most there is h))

pub room_none : (fields : List Field) (v i n : ℕ) → None ≡ least_of (counted i fields) → true ≡ absent_hold v i n fields
room_none fields v i n e = sym (all_hold fields v i n (all_none (counted i fields) n (sym e)))

pub room_some : (fields : List Field) (v i n l : ℕ) → Some l ≡ least_of (counted i fields) → n ≤ l → true ≡ absent_hold v i n fields
room_some fields v i n l e h = sym (all_hold fields v i n (all_above (counted i fields) l n (sym e) h))

pub ruleset room_laws = (room_none, room_some)
