-- The partners of the rest of two descriptions, field by field.
use Rattle.vms_convert.proofs.Facade
use Facade.{add-one, ◌≡◌, ℕ, zero, suc, ◌+◌, ◌-◌, ◌*◌, ◌<◌, ◌≤◌, List, [], ◌∷◌, ◌++◌, length, length-append, get_or}
use Facade.{drop, true, false, Option, Some, None, refl, arith, drop_more, Item, Struct, Cell, first, no_desc, no_field, capacity_of, item_size, field_cells}
use Facade.{cells_from, struct_cells, uses_below, Formula, Field, Desc, Set, ItemBelow, FieldsBelow, all_below, first_at, is_well_formed, struct_clean, Entry}
use Facade.{entry_of, is_absent, is_nothing, present, present_from, presence, Pairer, no_pairer, pairer_of, unpaired, item_partners, array_partners}
use Facade.{field_partners, fields_left, partners_from, desc_partners, table, struct_on}

-- how far down structures go
abbrev pub depth : Item → ℕ
depth (Struct j) = suc j
depth item = 0

pub depth_within : (k : ℕ) (item : Item) → uses_below k item ≡ true → depth item ≤ k
depth_within k item e = grind arith

-- ---- places counted from the device's first cell

abbrev shifted : ℕ → List Entry → List Entry
shifted at [] = []
shifted at (e ∷ es) = record e { place = at + e.place } ∷ shifted at es

one_shifted : (i p at : ℕ) (f : Field) (o : Option (Option Formula)) (es : List Entry)
    → shifted at (entry_of i p f o ++ es) ≡ entry_of i (at + p) f o ++ shifted at es
one_shifted i p at f o es = grind arith

entries_shifted : (y : List (List Cell)) (all : List Field) (w i p at : ℕ) (gs : List Field)
    → shifted at (present_from y all w i p gs) ≡ present_from y all w i (at + p) gs
entries_shifted y all w i p at [] = refl
entries_shifted y all w i p at (g ∷ gs) =
    let n = length (field_cells y all i g) in
    let z : at + (p + n) ≡ (at + p) + n = omega arith in
    rw (one_shifted i p at g (presence w g.test g.since) (present_from y all w (suc i) (p + n) gs), entries_shifted y all w (suc i) (p + n) at gs, z)

module _ (structs : List Pairer) (x y : List (List Cell)) where
  field_shifted : (f : Field) (o : Option (Option Formula)) (es : List Entry) (at : ℕ)
      → field_partners structs x y f o es at ≡ field_partners structs x y f o (shifted at es) 0
  field_shifted f o es at = grind arith

  left_shifted : (o : Option (Option Formula)) (es : List Entry) (at : ℕ)
      → shifted at (fields_left structs x y o es) ≡ fields_left structs x y o (shifted at es)
  left_shifted o es at = grind arith

  fields_shifted : (v at : ℕ) (fs : List Field) (es : List Entry) → partners_from structs x y v at fs es ≡ partners_from structs x y v 0 fs (shifted at es)
  fields_shifted v at [] es = refl
  fields_shifted v at (f ∷ fs) es =
      let o = presence v f.test f.since in
      rw (field_shifted f o es at, fields_shifted v at fs (fields_left structs x y o es), left_shifted o es at)

  -- a whole description, from its first field on
  pub desc_left : (v w : ℕ) (a b : Desc) (at : ℕ)
      → partners_from structs x y v 0 a.fields (present_from y b.fields w 0 at b.fields) ≡ desc_partners structs x y v w a b at
  desc_left v w a b at = grind (arith, fields_shifted, entries_shifted)

-- ---- tables of structures

module _ (k : ℕ) (ts us : List Pairer) (same : (i : ℕ) → i < k → get_or ts i no_pairer ≡ get_or us i no_pairer) (x y : List (List Cell)) where
  item_same : (a b : Item) (at : ℕ) → ItemBelow k a → item_partners ts x y a b at ≡ item_partners us x y a b at
  item_same a b at lt = grind arith

  array_same : (a b : Item) (n m at : ℕ) → ItemBelow k a → array_partners ts x y a b n m at ≡ array_partners us x y a b n m at
  array_same a b zero m at lt = refl
  array_same a b (suc n) zero at lt = rw (array_same a b n zero at lt)
  array_same a b (suc n) (suc m) at lt = rw (item_same a b at lt, array_same a b n m (at + item_size y b) lt)

  field_same : (f : Field) (o : Option (Option Formula)) (es : List Entry) (at : ℕ) → ItemBelow k f.item
      → field_partners ts x y f o es at ≡ field_partners us x y f o es at
  field_same f o es at lt = grind (arith, array_same)

  left_same : (o : Option (Option Formula)) (es : List Entry) → fields_left ts x y o es ≡ fields_left us x y o es
  left_same o es = grind arith

  fields_same : (v at : ℕ) (fs : List Field) (es : List Entry) → FieldsBelow k fs → partners_from ts x y v at fs es ≡ partners_from us x y v at fs es
  fields_same v at [] es lt = refl
  fields_same v at (f ∷ fs) es lt =
      let o = presence v f.test f.since in
      rw (field_same f o es at lt.0, left_same o es, fields_same v at fs (fields_left us x y o es) lt.1)

module _ (old new : Set) (well : is_well_formed old ≡ true) where
  abbrev row : List Pairer → Desc → Pairer
  row earlier d = pairer_of earlier (struct_cells old) (struct_cells new) new.structs d

  agrees : (i : ℕ) → i < length old.structs → (l : ℕ) → l < i → get_or (first row old.structs i) l no_pairer ≡ get_or (table old new) l no_pairer
  agrees i lt l less = cc (first_at row old.structs no_pairer i l less, first_at row old.structs no_pairer (length old.structs) l (omega arith))

  -- a structure, each side at its own version
  pub structs_paired : (i j v w at : ℕ) → i < length old.structs → v ≡ (get_or old.structs i no_desc).version → w ≡ (get_or new.structs j no_desc).version
      → struct_on old new i j at ≡ desc_partners (table old new) (struct_cells old) (struct_cells new) v w (get_or old.structs i no_desc)
      (get_or new.structs j no_desc) at
  structs_paired i j v w at lt is_v is_w =
      let d = get_or old.structs i no_desc in
      let e = get_or new.structs j no_desc in
      rw (is_v, is_w, first_at row old.structs no_pairer (length old.structs) i lt)
      (fields_same i (first row old.structs i) (table old new) (agrees i lt) (struct_cells old) (struct_cells new) d.version at d.fields
      (present (struct_cells new) e e.version) (all_below i d.fields (λ l less. ((struct_clean old well i lt).fields l less).uses)))

-- ---- field by field

pub nothing : (o : Option (Option Formula)) → is_nothing o ≡ true → o ≡ None
nothing o e = grind arith

pub record IsThere (o : Option (Option Formula)) : Type 0 where
  pub rest : Option Formula
  pub is : o ≡ Some rest

pub something : (o : Option (Option Formula)) → is_nothing o ≡ false → IsThere o
something o e = grind arith

module _ (y : List (List Cell)) (all : List Field) (w : ℕ) where
  abbrev at_number : ℕ → Field
  at_number i = get_or all i no_field

  abbrev size_at : ℕ → ℕ
  size_at i = length (field_cells y all i (at_number i))

  abbrev entries_on : ℕ → ℕ → List Entry
  entries_on i p = present_from y all w i p (drop i all)

  abbrev state_at : ℕ → Option (Option Formula)
  state_at i = presence w (at_number i).test (at_number i).since

  pub entries_found : (i p : ℕ) → i < length all → (h : IsThere (state_at i))
      → entries_on i p ≡ record { index = i; place = p; field = at_number i; rest = h.rest } ∷ entries_on (i + 1) (p + size_at i)
  entries_found i p lt h = rw (drop_more all i no_field lt, add-one, h.is)

  -- the cells of the fields from field i on
  pub cells_here : (i : ℕ) → i < length all → length (cells_from y all i (drop i all)) ≡ size_at i + length (cells_from y all (i + 1) (drop (i + 1) all))
  cells_here i lt = rw (drop_more all i no_field lt, length-append, add-one)

module _ (structs : List Pairer) (x y : List (List Cell)) (all : List Field) (v k : ℕ) (lt : k < length all) where
  abbrev here : Field
  here = get_or all k no_field

  abbrev left : ℕ → List Entry → List (Option ℕ)
  left i es = partners_from structs x y v 0 (drop i all) es

  abbrev alone : List (Option ℕ)
  alone = unpaired (capacity_of here.count * item_size x here.item)

  -- the field, if its presence is this, and those after it
  abbrev by_state : List Entry → Option (Option Formula) → List (Option ℕ)
  by_state es o = field_partners structs x y here o es 0 ++ left (k + 1) (fields_left structs x y o es)

  left_here : (es : List Entry) → left k es ≡ by_state es (presence v here.test here.since)
  left_here es = rw (drop_more all k no_field lt)

  -- the field isn't there, or has no partner
  pub left_absent : (es : List Entry) → is_absent v here ≡ true → left k es ≡ alone ++ left (k + 1) es
  left_absent es e = rw (left_here es, nothing _ e)

  pub left_alone : is_absent v here ≡ false → left k [] ≡ alone ++ left (k + 1) []
  left_alone e = rw (left_here [], (something _ e).is)

  pub left_paired : (f : Entry) (es : List Entry) → is_absent v here ≡ false
      → left k (f ∷ es) ≡ array_partners structs x y here.item f.field.item (capacity_of here.count) (capacity_of f.field.count) f.place ++ left (k + 1) es
  left_paired f es e = grind (arith, left_here, something)

-- ---- elements

module _ (structs : List Pairer) (x y : List (List Cell)) (a b : Item) where
  abbrev arrays : ℕ → ℕ → ℕ → List (Option ℕ)
  arrays n m at = array_partners structs x y a b n m at

  -- by the number of the element
  pub element_paired : (n m i at : ℕ) → i < n → i < m
      → arrays (n - i) (m - i) at ≡ item_partners structs x y a b at ++ arrays (n - (i + 1)) (m - (i + 1)) (at + item_size y b)
  element_paired n m i at ln lm = grind arith

  pub element_alone : (n m i at : ℕ) → i < n → m ≤ i → arrays (n - i) (m - i) at ≡ unpaired (item_size x a) ++ arrays (n - (i + 1)) (m - (i + 1)) at
  element_alone n m i at ln le = grind arith

-- a number of elements of a size, and those from the next one on
pub all_but_one : (n i size : ℕ) → i < n → (n - i) * size ≡ size + (n - (i + 1)) * size
all_but_one n i size lt =
    let s : n - i ≡ suc (n - (i + 1)) = omega arith in rw s (omega arith)

-- one of some is no more than all
pub one_of_all : (n size : ℕ) → 0 < n → size ≤ n * size
one_of_all n size lt = grind arith
