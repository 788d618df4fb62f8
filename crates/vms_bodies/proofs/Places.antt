-- Where the slots of a description begin, and which cells they name.
use Rattle.vms_bodies.proofs.Facade
use Facade.{◌≡◌, ℕ, List, ◌∷◌, ◌++◌, refl, sym, ◌∙◌, true, false, [], ◌||◌, if◌then◌else◌, or_parts, or_right, or_assoc, Slot}
use Facade.{Number, has_cell, zero, suc, ◌+◌, ◌*◌, ◌<◌, ◌≤◌, length, get_or, drop, Option, ℤ, pos, ap, arith, length-append, not}
use Facade.{AllByRecursion, Item, Num, Count, Own, Formula, Not, And, Or, Field, Desc, truth, is_there, place_of, field_cells, item_size, capacity_of}
use Facade.{cells_from, numbers_of, no_field, no_parent, all_hold, elements_of, field_size, IsNumber, IsOne, IsEarlier, NamesEarlier, IsSoundTest, IsSoundCount}
use Facade.{Struct, Meaning, no_meaning, no_desc, item_slots, times, field_slots, slots_from, desc_slots, counted, first, meaning, meanings, one_more}
use Facade.{first_cells, drop_on, map, append_assoc, get_or-map, Cell, no_cell, item_cells, desc_cells, AreCells, size_same, elements_fit, Kind, width}
use Rattle.std.proofs.Common.{Bool as Truth}
use Rattle.vms_spec.specs.Layout.{Cell as OneCell}
use Rattle.vms_spec.specs.Sets as sets

-- ---- which cells are in slots that are joined; choices

pub names_append : (xs ys : List Slot) (k : ℕ) → has_cell (xs ++ ys) k ≡ (has_cell xs k || has_cell ys k)
names_append [] ys k = refl
names_append (Number c kind caps ∷ xs) ys k = grind (arith, or_assoc, names_append xs ys k)
names_append (_ ∷ xs) ys k = names_append xs ys k

pub none_in_both : (c : ℕ) (xs ys : List Slot) → has_cell (xs ++ ys) c ≡ false → (has_cell xs c ≡ false) × (has_cell ys c ≡ false)
none_in_both c xs ys e = or_parts _ _ (sym (names_append xs ys c) ∙ e)

pub none_joined : (c : ℕ) (xs ys : List Slot) → has_cell xs c ≡ false → has_cell ys c ≡ false → has_cell (xs ++ ys) c ≡ false
none_joined c xs ys p q = rw (names_append, p, q) refl

pub has_left : (s t : List Slot) (c : ℕ) → has_cell s c ≡ true → has_cell (s ++ t) c ≡ true
has_left s t c h = rw (names_append, h) refl

pub has_right : (s t : List Slot) (c : ℕ) → has_cell t c ≡ true → has_cell (s ++ t) c ≡ true
has_right s t c h = names_append s t c ∙ or_right _ _ h

-- a property of both values, or of each where the test says so
pub if_both : {A : Type 0} (P : A → Type 0) (b : Truth) (x y : A) → P x → P y → P (if b then x else y)
if_both P b x y f g = grind arith

pub if_so : {A : Type 0} (P : A → Type 0) (b : Truth) (x y : A) → (b ≡ true → P x) → (b ≡ false → P y) → P (if b then x else y)
if_so P b x y f g = grind arith

pub if_there : (P : List Slot → Type 0) → P [] → (b : Truth) (xs : List Slot) → P xs → P (if b then xs else [])
if_there P none b xs x = if_both P _ _ [] x none

-- ---- where fields begin, and which tests don't change

-- the numbers below a cell stay
pub record SameBelow (cell : ℕ) (before now : List ℤ) : Type 0 where
  pub same : (c : ℕ) → c < cell → get_or now c (pos 0) ≡ get_or before c (pos 0)

pub same_refl : (cell : ℕ) (n : List ℤ) → SameBelow cell n n
same_refl cell n = record { same = λ c h. refl }

pub same_less : (cell further : ℕ) (n m : List ℤ) → cell ≤ further → SameBelow further n m → SameBelow cell n m
same_less cell further n m le s = record { same = λ c h. s.same c (omega arith) }

pub same_trans : (cell : ℕ) (n m k : List ℤ) → SameBelow cell n m → SameBelow cell m k → SameBelow cell n k
same_trans cell n m k s t = record { same = λ c h. t.same c h ∙ s.same c h }

-- ---- places

one_cell : (cs : List (List OneCell)) (item : Item) (c : Count) → IsNumber item → IsOne c → capacity_of c * item_size cs item ≡ 1
one_cell cs item c p q = grind arith

pub place_first : (cs : List (List OneCell)) (fields : List Field) (i at : ℕ) (fs : List Field) → place_of cs fields i at fs 0 ≡ at
place_first cs fields i at [] = refl
place_first cs fields i at (f ∷ fs) = refl

pub place_up : (cs : List (List OneCell)) (fields : List Field) (i at : ℕ) (fs : List Field) (k : ℕ) → at ≤ place_of cs fields i at fs k
place_up cs fields i at (f ∷ fs) (suc k) = omega (arith, place_up cs fields (suc i) (at + length (field_cells cs fields i f)) fs k)
place_up cs fields i at _ k = omega arith

pub place_below : (cs : List (List OneCell)) (fields : List Field) (i at : ℕ) (fs : List Field) (j k : ℕ) → j < k → j < length fs
    → IsNumber (get_or fs j no_field).item → IsOne (get_or fs j no_field).count → place_of cs fields i at fs j < place_of cs fields i at fs k
place_below cs fields i at (f ∷ fs) zero (suc k) lt there p q = grind (arith, place_up, field_size, one_cell)
place_below cs fields i at (f ∷ fs) (suc j) (suc k) lt there p q =
    place_below cs fields (suc i) (at + length (field_cells cs fields i f)) fs j k (omega arith) (omega arith) p q
place_below cs fields i at _ j k lt there p q = absurd (omega arith)

pub place_next : (cs : List (List OneCell)) (fields : List Field) (i at : ℕ) (fs : List Field) (k : ℕ) (f : Field) (more : List Field) → drop k fs ≡ f ∷ more
    → place_of cs fields i at fs (suc k) ≡ place_of cs fields i at fs k + length (field_cells cs fields (i + k) f)
place_next cs fields i at [] zero f more e = cc
place_next cs fields i at [] (suc k) f more e = cc
place_next cs fields i at (g ∷ fs) zero f more e = grind (arith, place_first)
place_next cs fields i at (g ∷ fs) (suc k) f more e = grind (arith, place_next cs fields (suc i) (at + length (field_cells cs fields i g)) fs k f more e)

pub place_end : (cs : List (List OneCell)) (fields : List Field) (i at : ℕ) (fs : List Field)
    → place_of cs fields i at fs (length fs) ≡ at + length (cells_from cs fields i fs)
place_end cs fields i at [] = omega arith
place_end cs fields i at (f ∷ fs) =
    omega (
      arith,
      place_end cs fields (suc i) (at + length (field_cells cs fields i f)) fs,
      length-append (field_cells cs fields i f)
          (cells_from cs fields (suc i) fs),
    )

-- ---- what earlier numbers settle

pub own_same : (cs : List (List OneCell)) (d : Desc) (base i cell j : ℕ) (n m : List ℤ) → cell ≡ place_of cs d.fields 0 base d.fields i → SameBelow cell n m
    → IsEarlier d.fields i j → numbers_of cs d m base j ≡ numbers_of cs d n base j
own_same cs d base i cell j n m e s x = grind (arith, place_below)

module _ (fields : List Field) (i v : ℕ) (own now : ℕ → ℕ) (h : (j : ℕ) → IsEarlier fields i j → now j ≡ own j) where
  pub truth_same : (t : Formula) → NamesEarlier fields i t → truth t v now no_parent ≡ truth t v own no_parent
  truth_same (sets.Cell Own j mask rel value) x = rw (h j x)
  truth_same (Not t) x = ap not (truth_same t x)
  truth_same (And s t) x = rw (truth_same s x.0, truth_same t x.1) refl
  truth_same (Or s t) x = rw (truth_same s x.0, truth_same t x.1) refl
  truth_same _ x = refl

  pub hold_same : (ts : List Formula) → AllByRecursion (NamesEarlier fields i) ts → all_hold ts v now ≡ all_hold ts v own
  hold_same [] x = refl
  hold_same (t ∷ ts) x = rw (truth_same t x.0, hold_same ts x.1) refl

pub there_same : (fields : List Field) (i v since : ℕ) (own now : ℕ → ℕ) → ((j : ℕ) → IsEarlier fields i j → now j ≡ own j) → (t : Option Formula)
    → IsSoundTest fields i t → is_there t since v now no_parent ≡ is_there t since v own no_parent
there_same fields i v since own now h t x = grind (arith, truth_same)

pub elements_same : (fields : List Field) (i : ℕ) (own now : ℕ → ℕ) → ((j : ℕ) → IsEarlier fields i j → now j ≡ own j) → (c : Count)
    → IsSoundCount fields i c → elements_of c now ≡ elements_of c own
elements_same fields i own now h c x = grind arith

-- ---- the numbers of a description's slots are at its place or above

-- none of the slots has a number below the cell
pub record IsAbove (cell : ℕ) (slots : List Slot) : Type 0 where
  pub below : (c : ℕ) → c < cell → has_cell slots c ≡ false

pub above_none : (cell : ℕ) → IsAbove cell []
above_none cell = record { below = λ c h. refl }

pub above_append : (cell : ℕ) (xs ys : List Slot) → IsAbove cell xs → IsAbove cell ys → IsAbove cell (xs ++ ys)
above_append cell xs ys p q = record { below = λ c h. none_joined c xs ys (p.below c h) (q.below c h) }

pub above_less : (cell further : ℕ) (xs : List Slot) → cell ≤ further → IsAbove further xs → IsAbove cell xs
above_less cell further xs le p = record { below = λ c h. p.below c (omega arith) }

pub record MeansAbove (m : Meaning) : Type 0 where
  pub means : (at : ℕ) (numbers : List ℤ) → IsAbove at (m.slots numbers at)

abbrev pub MeanAbove : List Meaning → Type 0
MeanAbove ms = (j : ℕ) → MeansAbove (get_or ms j no_meaning)

module _ (ms : List Meaning) (h : MeanAbove ms) where
  pub item_above : (item : Item) (caps : List ℕ) (numbers : List ℤ) (at : ℕ) → IsAbove at (item_slots ms item caps numbers at)
  item_above item caps numbers at = search arith

  pub items_above : (item : Item) (caps : List ℕ) (numbers : List ℤ) (n at step : ℕ) → IsAbove at (times n (item_slots ms item caps numbers) at step)
  items_above item caps numbers zero at step = above_none at
  items_above item caps numbers (suc n) at step = grind (arith, above_append, item_above, above_less, items_above item caps numbers n (at + step) step)

  module _ (fields : List Field) (v : ℕ) (own : ℕ → ℕ) (numbers : List ℤ) where
    pub field_above : (i at : ℕ) (f : Field) → IsAbove at (field_slots ms fields v own numbers i at f)
    field_above i at f = grind (arith, if_there, above_none, items_above, counted)

    pub fields_above : (i at : ℕ) (fs : List Field) → IsAbove at (slots_from ms fields v own numbers i at fs)
    fields_above i at [] = above_none at
    fields_above i at (f ∷ fs) = above_append _ _ _ (field_above i at f) (above_less _ _ _ (omega arith) (fields_above (suc i) _ fs))

  pub desc_above : (d : Desc) (v : ℕ) (numbers : List ℤ) (at : ℕ) → IsAbove at (desc_slots ms d v numbers at)
  desc_above d v numbers at = above_append at _ _ (fields_above d.fields v _ numbers 0 at d.fields) (record { below = λ c lt. refl })

pub meanings_above : (ds : List Desc) (k : ℕ) → MeanAbove (meanings ds k)
unfolding first
meanings_above ds zero = λ j. record { means = λ at numbers. above_none at }
meanings_above ds (suc k) =
    one_more MeansAbove no_meaning (record { means = λ at numbers. above_none at }) (meanings ds k) (meanings_above ds k)
    (meaning (meanings ds k) (get_or ds k no_desc))
    (record { means = λ at numbers. desc_above (meanings ds k) (meanings_above ds k) (get_or ds k no_desc) _ numbers at })

-- ---- the numbers that are in the bytes of a description are its cells

-- from an index on, these cells are in a list
pub record Stands (all : List Cell) (at : ℕ) (cells : List Cell) : Type 0 where
  pub more : List Cell
  pub is : drop at all ≡ cells ++ more

pub front_stands : (all : List Cell) (at : ℕ) (xs ys : List Cell) → Stands all at (xs ++ ys) → Stands all at xs
front_stands all at xs ys s = record { more = ys ++ s.more; is = cc (append_assoc xs ys s.more) }

pub rest_stands : (all : List Cell) (at : ℕ) (xs ys : List Cell) → Stands all at (xs ++ ys) → Stands all (at + length xs) ys
rest_stands all at xs ys s = record { more = s.more; is = drop_on _ _ _ _ (s.is ∙ append_assoc xs ys s.more) }

first_is : (all : List Cell) (at : ℕ) (c : Cell) (more : List Cell) → drop at all ≡ c ∷ more → (at < length all) × (get_or all at no_cell ≡ c)
first_is [] zero c more e = cc
first_is [] (suc at) c more e = cc
first_is (x ∷ all) zero c more e = (omega arith, cc)
first_is (x ∷ all) (suc at) c more e = let h = first_is all at c more e in let l : at < length all = h.0 in (omega arith, h.1)

pub cells_append : (all : List Cell) (xs ys : List Slot) → AreCells all xs → AreCells all ys → AreCells all (xs ++ ys)
cells_append all [] ys p q = q
cells_append all (Number c kind caps ∷ xs) ys p q = (p.0, cells_append all xs ys p.1 q)
cells_append all (_ ∷ xs) ys p q = cells_append all xs ys p q

pub record MeansCells (m : Meaning) : Type 0 where
  pub means : (all : List Cell) (at : ℕ) (numbers : List ℤ) → Stands all at m.cells → AreCells all (m.slots numbers at)

abbrev pub MeanCells : List Meaning → Type 0
MeanCells ms = (j : ℕ) → MeansCells (get_or ms j no_meaning)

abbrev cells_in : List Meaning → List (List Cell)
cells_in ms = map (λ m. m.cells) ms

module _ (ms : List Meaning) (h : MeanCells ms) where
  pub item_are : (item : Item) (caps : List ℕ) (z : ℤ) (all : List Cell) (at : ℕ) (numbers : List ℤ)
      → Stands all at (item_cells (cells_in ms) item caps z) → AreCells all (item_slots ms item caps numbers at)
  item_are (Num kind) caps z all at numbers s = search (arith, first_is)
  item_are (Struct j) caps z all at numbers s = (h j).means all at numbers (rw (get_or-map (λ (m : Meaning). m.cells) ms j no_meaning) at s)
  item_are _ caps z all at numbers s = tt

  pub items_are : (item : Item) (caps : List ℕ) (z : ℤ) (all : List Cell) (n k at a step : ℕ) (numbers : List ℤ) → k ≤ n
      → Stands all at (times n (λ _. item_cells (cells_in ms) item caps z) a step)
      → AreCells all (times k (item_slots ms item caps numbers) at (item_size (cells_in ms) item))
  items_are item caps z all n zero at a step numbers le s = tt
  items_are item caps z all zero (suc k) at a step numbers le s = absurd (omega arith)
  items_are item caps z all (suc n) (suc k) at a step numbers le s =
      cells_append all (item_slots ms item caps numbers at) _ (item_are item caps z all at numbers (front_stands all at _ _ s))
      (items_are item caps z all n k _ (a + step) step numbers (omega arith)
      (rw (size_same (cells_in ms) item caps z) at (rest_stands all at (item_cells (cells_in ms) item caps z) _ s)))

  pub field_are : (fields : List Field) (v : ℕ) (own : ℕ → ℕ) (numbers : List ℤ) (i at : ℕ) (f : Field) (all : List Cell)
      → Stands all at (field_cells (cells_in ms) fields i f) → AreCells all (field_slots ms fields v own numbers i at f)
  field_are fields v own numbers i at f all s =
      if_there (AreCells all) tt (is_there f.test f.since v own no_parent) _
      (items_are f.item (counted i fields) f.default all (capacity_of f.count) (elements_of f.count own) at 0 0 numbers (elements_fit f.count own) s)

  pub fields_are : (fields : List Field) (v : ℕ) (own : ℕ → ℕ) (numbers : List ℤ) (i at : ℕ) (fs : List Field) (all : List Cell)
      → Stands all at (cells_from (cells_in ms) fields i fs) → AreCells all (slots_from ms fields v own numbers i at fs)
  fields_are fields v own numbers i at [] all s = tt
  fields_are fields v own numbers i at (f ∷ fs) all s =
      cells_append all (field_slots ms fields v own numbers i at f) _ (field_are fields v own numbers i at f all (front_stands all at _ _ s))
      (fields_are fields v own numbers (suc i) _ fs all (rest_stands all at _ _ s))

  pub desc_are : (d : Desc) (v at : ℕ) (numbers : List ℤ) (all : List Cell) → Stands all at (desc_cells (cells_in ms) d)
      → AreCells all (desc_slots ms d v numbers at)
  desc_are d v at numbers all s = cells_append all (slots_from ms d.fields v _ numbers 0 at d.fields) _ (fields_are d.fields v _ numbers 0 at d.fields all s) tt

pub meanings_are : (ds : List Desc) (k : ℕ) → MeanCells (meanings ds k)
unfolding first
meanings_are ds zero = λ j. record { means = λ all at numbers s. tt }
meanings_are ds (suc k) =
    one_more MeansCells no_meaning (record { means = λ all at numbers s. tt }) (meanings ds k) (meanings_are ds k)
    (meaning (meanings ds k) (get_or ds k no_desc))
    (record { means = λ all at numbers s. desc_are (meanings ds k) (meanings_are ds k) (get_or ds k no_desc) _ at numbers all s })

-- the cells of the first k structures, made either way
pub cells_first : (ds : List Desc) (k : ℕ) → cells_in (meanings ds k) ≡ first desc_cells ds k
cells_first ds k = grind (arith, first_cells)

-- ---- each kind has at least one byte

pub width_positive : (kind : Kind) → 0 < width kind
width_positive kind = grind arith
