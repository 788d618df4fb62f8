-- Structures by number: tables, the cells and room of a field, and tables that include a table.
use Rattle.vms_spec.proofs.Facade
use Facade.{◌≡◌, ℕ, zero, suc, ◌<◌, ◌≤◌, List, [], ◌∷◌, ◌++◌, length, length-append, get_or, take, refl, sym, ap, ◌∙◌, arith}
use Facade.{Bool, true, false, nat_lt, ltb-true, get_or_append_left, get_or_push, get_or-take, Desc, first, no_desc, ◌+◌, ◌*◌, ℤ, mul-le-mul_right}
use Facade.{Item, Count, Field, field_cells, item_cells, item_size, capacity_of, times, elements_of, counted, map, pos, get_or-map, fun_ext, map-append, Struct}
use Facade.{is_there, uses_below, Meaning, no_field, no_parent, no_meaning, meaning, meanings, cells_from, desc_cells, item_slots, slots_from, desc_slots}
use Facade.{numbers_of, place_of, Reader, reader, cells_of}
use Rattle.vms_spec.specs.Layout.{Cell}

-- ---- tables by number: each element is made from the earlier ones alone

pub first_long : {B : Type 0} (f : List B → Desc → B) (ds : List Desc) (k : ℕ) → length (first f ds k) ≡ k
unfolding first
first_long f ds zero = refl
first_long f ds (suc k) = length-append (first f ds k) (f (first f ds k) (get_or ds k no_desc) ∷ []) ∙ omega (arith, first_long f ds k)

at_step : {B : Type 0} (f : List B → Desc → B) (ds : List Desc) (d : B) (k j : ℕ) → j < suc k → (j < k → get_or (first f ds k) j d ≡ f (first f ds j) (get_or ds j no_desc))
    → (b : Bool) → nat_lt j k ≡ b → get_or (first f ds k ++ f (first f ds k) (get_or ds k no_desc) ∷ []) j d ≡ f (first f ds j) (get_or ds j no_desc)
at_step f ds d k j lt earlier true e =
    let l : j < k = ltb-true j k e in
    let long = first_long f ds k in
    get_or_append_left (first f ds k) (f (first f ds k) (get_or ds k no_desc) ∷ []) d j (omega (arith, long)) ∙ earlier l
at_step f ds d k j lt earlier false e = grind (arith, get_or_push, first_long)

-- a property of each element of a list and of one more
pub one_more : {A : Type 0} (P : A → Type 0) (a0 : A) → P a0 → (xs : List A) → ((j : ℕ) → P (get_or xs j a0)) → (a : A) → P a → (j : ℕ) → P (get_or (xs ++ a ∷ []) j a0)
one_more P a0 p0 [] all a p zero = p
one_more P a0 p0 [] all a p (suc j) = p0
one_more P a0 p0 (x ∷ xs) all a p zero = all zero
one_more P a0 p0 (x ∷ xs) all a p (suc j) = one_more P a0 p0 xs (λ k. all (suc k)) a p j

-- the same for two lists side by side
pub two_more : {A B : Type 0} (R : A → B → Type 0) (a0 : A) (b0 : B) → R a0 b0 → (xs : List A) (ys : List B) → length xs ≡ length ys
    → ((j : ℕ) → R (get_or xs j a0) (get_or ys j b0)) → (a : A) (b : B) → R a b → (j : ℕ) → R (get_or (xs ++ a ∷ []) j a0) (get_or (ys ++ b ∷ []) j b0)
two_more R a0 b0 r0 [] [] e all a b r zero = r
two_more R a0 b0 r0 [] [] e all a b r (suc j) = r0
two_more R a0 b0 r0 (x ∷ xs) (y ∷ ys) e all a b r zero = all zero
two_more R a0 b0 r0 (x ∷ xs) (y ∷ ys) e all a b r (suc j) = two_more R a0 b0 r0 xs ys (omega arith) (λ k. all (suc k)) a b r j
two_more R a0 b0 r0 _ _ e all a b r j = absurd (omega arith)

pub first_at : {B : Type 0} (f : List B → Desc → B) (ds : List Desc) (d : B) (k j : ℕ) → j < k → get_or (first f ds k) j d ≡ f (first f ds j) (get_or ds j no_desc)
unfolding first
first_at f ds d zero j lt = absurd (omega arith)
first_at f ds d (suc k) j lt = at_step f ds d k j lt (λ l. first_at f ds d k j l) (nat_lt j k) refl

-- the elements for the first j descriptions are made from these descriptions alone
pub first_take : {B : Type 0} (f : List B → Desc → B) (ds : List Desc) (j k : ℕ) → k ≤ j → first f (take j ds) k ≡ first f ds k
unfolding first
first_take {B = B} f ds j zero le = refl
first_take {B = B} f ds j (suc k) le = rw (first_take f ds j k (omega arith), (get_or-take j ds k no_desc (omega arith)))

-- ---- the number of cells of a field, and that its elements fit into it

pub length-times : {B : Type 0} (n : ℕ) (xs : List B) (at step : ℕ) → length (times n (λ _. xs) at step) ≡ n * length xs
length-times zero xs at step = omega arith
length-times (suc n) xs at step =
    length-append xs (times n (λ _. xs) (at + step) step) ∙ ap (λ k. length xs + k) (length-times n xs (at + step) step) ∙ sym (grind arith)

pub size_same : (cs : List (List Cell)) (item : Item) (caps : List ℕ) (z : ℤ) → length (item_cells cs item caps z) ≡ item_size cs item
size_same cs item caps z = grind arith

pub field_size : (cs : List (List Cell)) (fields : List Field) (i : ℕ) (f : Field) → length (field_cells cs fields i f) ≡ capacity_of f.count * item_size cs f.item
field_size cs fields i f =
    cc (length-times (capacity_of f.count) (item_cells cs f.item (counted i fields) f.default) 0 0, size_same cs f.item (counted i fields) f.default)

pub elements_fit : (c : Count) (own : ℕ → ℕ) → elements_of c own ≤ capacity_of c
elements_fit c own = grind arith

-- ---- room for elements

-- an element of an array is within the array
pub element_room : (e n size : ℕ) → suc e ≤ n → e * size + size ≤ n * size
element_room e n size le = grind arith

pub room_for_less : (a b s x n : ℕ) → a ≤ b → x + b * s ≤ n → x + a * s ≤ n
room_for_less a b s x n le h = omega (arith, mul-le-mul_right {m = a} {n = b} s le)

pub one_fits : (a s x n most : ℕ) → 1 ≤ a → x + a * s ≤ n → n ≤ most → s ≤ most
one_fits a s x n most one h le = omega (arith, mul-le-mul_right {m = 1} {n = a} s one)

-- ---- a structure has the same meaning in each table that includes it

-- the item is no structure, or a structure of a number below k
abbrev pub ItemBelow : ℕ → Item → Type 0
ItemBelow k (Struct j) = j < k
ItemBelow k _ = Unit {0}

abbrev pub FieldsBelow : ℕ → List Field → Type 0
FieldsBelow k [] = Unit {0}
FieldsBelow k (f ∷ fs) = ItemBelow k f.item × FieldsBelow k fs

pub item_below : (k : ℕ) (item : Item) → uses_below k item ≡ true → ItemBelow k item
item_below k item e = grind arith

pub all_below : (k : ℕ) (fs : List Field) → ((i : ℕ) → i < length fs → uses_below k (get_or fs i no_field).item ≡ true) → FieldsBelow k fs
all_below k [] h = tt
all_below k (f ∷ fs) h = (item_below k f.item (h 0 (omega arith)), all_below k fs (λ i lt. h (suc i) (omega arith)))

-- ---- cells

-- two lists have the same cells of structures of numbers below j
module _ (j : ℕ) (cs cs' : List (List Cell)) (same : (i : ℕ) → i < j → get_or cs i [] ≡ get_or cs' i []) where
  pub item_cells_same : (item : Item) (caps : List ℕ) (z : ℤ) → ItemBelow j item → item_cells cs item caps z ≡ item_cells cs' item caps z
  item_cells_same item caps z h = grind arith

  pub field_cells_same : (all : List Field) (i : ℕ) (f : Field) → ItemBelow j f.item → field_cells cs all i f ≡ field_cells cs' all i f
  field_cells_same all i f h = rw (item_cells_same f.item (counted i all) f.default h)

  cells_from_same : (all : List Field) (i : ℕ) (fs : List Field) → FieldsBelow j fs → cells_from cs all i fs ≡ cells_from cs' all i fs
  cells_from_same all i [] h = refl
  cells_from_same all i (f ∷ fs) h = rw (field_cells_same all i f h.0, cells_from_same all (suc i) fs h.1)

  pub desc_cells_same : (d : Desc) → FieldsBelow j d.fields → desc_cells cs d ≡ desc_cells cs' d
  desc_cells_same d h = cells_from_same d.fields 0 d.fields h

  place_same : (all fs : List Field) (i at k : ℕ) → FieldsBelow j fs → place_of cs all i at fs k ≡ place_of cs' all i at fs k
  place_same all (f ∷ fs) i at (suc k) h = rw (field_cells_same all i f h.0) (place_same all fs (suc i) (at + length (field_cells cs' all i f)) k h.1)
  place_same all _ i at _ h = refl

  -- the numbers of its fields
  pub own_same : (d : Desc) (numbers : List ℤ) (at : ℕ) → FieldsBelow j d.fields → numbers_of cs d numbers at ≡ numbers_of cs' d numbers at
  own_same d numbers at h = fun_ext (λ (k : ℕ). rw (place_same d.fields d.fields 0 at k h))

-- the cells in two tables that agree at i
pub row_same : {B : Type 0} (cells : B → List Cell) (none : B) (bs bs' : List B) (i : ℕ) → get_or bs i none ≡ get_or bs' i none
    → get_or (map cells bs) i (cells none) ≡ get_or (map cells bs') i (cells none)
row_same cells none bs bs' i e = cc (get_or-map cells bs i none, get_or-map cells bs' i none)

-- the cells in a table that f makes, if f keeps the cells of each description
pub first_cells : {B : Type 0} (cells : B → List Cell) (f : List B → Desc → B) → ((bs : List B) (d : Desc) → cells (f bs d) ≡ desc_cells (map cells bs) d)
    → (ds : List Desc) (k : ℕ) → map cells (first f ds k) ≡ first desc_cells ds k
unfolding first
first_cells cells f makes ds zero = refl
first_cells cells f makes ds (suc k) =
    cc (map-append cells (first f ds k) (f (first f ds k) (get_or ds k no_desc) ∷ []), makes (first f ds k) (get_or ds k no_desc), first_cells cells f makes ds k)

pub readers_cells : (ds : List Desc) (k : ℕ) → cells_of (first reader ds k) ≡ first desc_cells ds k
readers_cells ds k = first_cells (λ (r : Reader). r.cells) reader (λ rs d. refl) ds k

-- the tables of the first j and of the first k descriptions agree below j
pub first_same : {B : Type 0} (f : List B → Desc → B) (ds : List Desc) (none : B) (j k i : ℕ) → j ≤ k → i < j
    → get_or (first f ds j) i none ≡ get_or (first f ds k) i none
first_same f ds none j k i le lt = cc (first_at f ds none j i lt, first_at f ds none k i (omega arith))

-- ---- slots

abbrev cells_in : List Meaning → List (List Cell)
cells_in ms = map (λ m. m.cells) ms

module _ (j : ℕ) (ms ms' : List Meaning) (same : (i : ℕ) → i < j → get_or ms i no_meaning ≡ get_or ms' i no_meaning) where
  cells_row : (i : ℕ) → i < j → get_or (cells_in ms) i [] ≡ get_or (cells_in ms') i []
  cells_row i h = row_same (λ (m : Meaning). m.cells) no_meaning ms ms' i (same i h)

  item_slots_same : (item : Item) (caps : List ℕ) (numbers : List ℤ) → ItemBelow j item → item_slots ms item caps numbers ≡ item_slots ms' item caps numbers
  item_slots_same item caps numbers h = grind arith

  slots_same : (all : List Field) (v : ℕ) (own : ℕ → ℕ) (numbers : List ℤ) (i at : ℕ) (fs : List Field) → FieldsBelow j fs
      → slots_from ms all v own numbers i at fs ≡ slots_from ms' all v own numbers i at fs
  slots_same all v own numbers i at [] h = refl
  slots_same all v own numbers i at (f ∷ fs) h =
      let there = is_there f.test f.since v own no_parent in
      let n = elements_of f.count own in
      let size = length (item_cells (cells_in ms) f.item [] (pos 0)) in
      let rest = slots_from ms all v own numbers (suc i) (at + length (field_cells (cells_in ms) all i f)) fs in
      rw (
        item_slots_same f.item (counted i all) numbers h.0,
        item_cells_same j (cells_in ms) (cells_in ms') cells_row f.item [] (pos 0) h.0,
        ap (λ l. slots_from ms all v own numbers (suc i) (at + length l) fs) (field_cells_same j (cells_in ms) (cells_in ms') cells_row all i f h.0)
            ∙ slots_same all v own numbers (suc i) (at + length (field_cells (cells_in ms') all i f)) fs h.1,
      )

  desc_slots_same : (d : Desc) (v : ℕ) (numbers : List ℤ) (at : ℕ) → FieldsBelow j d.fields → desc_slots ms d v numbers at ≡ desc_slots ms' d v numbers at
  desc_slots_same d v numbers at h =
      rw (slots_same d.fields v (numbers_of (cells_in ms) d numbers at) numbers 0 at d.fields h, own_same j (cells_in ms) (cells_in ms') cells_row d numbers at h)

-- structure j by the table of all structures
pub struct_slots : (ds : List Desc) (k j : ℕ) (numbers : List ℤ) (at : ℕ) → j < k → FieldsBelow j (get_or ds j no_desc).fields
    → (get_or (meanings ds k) j no_meaning).slots numbers at ≡ desc_slots (meanings ds k) (get_or ds j no_desc) (get_or ds j no_desc).version numbers at
struct_slots ds k j numbers at h below =
    rw (first_at meaning ds no_meaning k j h) (desc_slots_same j (meanings ds j) (meanings ds k) (λ i lt. first_same meaning ds no_meaning j k i (omega arith) lt) (get_or ds j no_desc) (get_or ds j no_desc).version numbers at below)

pub struct_cells_at : (ds : List Desc) (k j : ℕ) → j < k → FieldsBelow j (get_or ds j no_desc).fields
    → get_or (cells_in (meanings ds k)) j [] ≡ desc_cells (cells_in (meanings ds k)) (get_or ds j no_desc)
struct_cells_at ds k j h below =
    get_or-map (λ (m : Meaning). m.cells) (meanings ds k) j no_meaning ∙ ap (λ m. m.cells) (first_at meaning ds no_meaning k j h)
    ∙ desc_cells_same j (cells_in (meanings ds j)) (cells_in (meanings ds k))
    (λ i lt. row_same (λ (m : Meaning). m.cells) no_meaning (meanings ds j) (meanings ds k) i (first_same meaning ds no_meaning j k i (omega arith) lt)) (get_or ds j no_desc) below
