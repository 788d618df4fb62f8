-- What holds of each element of a list or a description, and of one of them; and tables of
-- structures.
use Rattle.vms_elements.proofs.Facade
use Facade.{◌≡◌, ◌⊎◌, inl, inr, ℕ, zero, suc, ◌+◌, Bool, true, List, [], ◌∷◌, ◌++◌, map, get_or, ℤ, Some, refl, subst, slice_get}
use Facade.{Element, Item, Field, Desc, Set, no_desc, first, counted, capacity_of, one_more, What, Rule, Shape, no_shape, AllByRecursion, shape, shapes, dotted}
use Facade.{behind, single, index_text, item_elements, Stand, stand_of, array_elements, field_elements, elements_from, desc_elements, elements_in, ◌<◌}
use Facade.{◌/◌, ◌%◌, ◌==◌, false, if◌then◌else◌, arith, decimal, digits, digits_onto, digit_glyph, lt-ltb, desc_cells, first_cells, cells_in}
use Rattle.vms_kinds.specs.declared.Item.TheVariants as items
use Rattle.vms_elements.specs.Elements as whats

-- ---- what holds of each element of a list, and of one of them; of each element of a description, by its items and its fields

abbrev pub Each : (Element → Type 0) → List Element → Type 0
Each P = AllByRecursion P

pub all_both : {A : Type 0} (P : A → Type 0) (xs ys : List A) → AllByRecursion P xs → AllByRecursion P ys → AllByRecursion P (xs ++ ys)
all_both P [] ys h k = k
all_both P (x ∷ xs) ys (p, h) k = (p, all_both P xs ys h k)

pub all_parts : {A : Type 0} (P : A → Type 0) (xs ys : List A) → AllByRecursion P (xs ++ ys) → AllByRecursion P xs × AllByRecursion P ys
all_parts P [] ys h = (tt, h)
all_parts P (x ∷ xs) ys (p, h) = let q = all_parts P xs ys h in ((p, q.0), q.1)

pub all_more : {A : Type 0} {P Q : A → Type 0} (xs : List A) → AllByRecursion P xs → ((x : A) → P x → Q x) → AllByRecursion Q xs
all_more [] h go = tt
all_more (x ∷ xs) (p, h) go = (go x p, all_more xs h go)

pub all_map : {A : Type 0} (P Q : A → Type 0) (f : A → A) → ((x : A) → P x → Q (f x)) → (xs : List A) → AllByRecursion P xs → AllByRecursion Q (map f xs)
all_map P Q f go [] h = tt
all_map P Q f go (x ∷ xs) (p, h) = (go x p, all_map P Q f go xs h)

pub all_at : {A : Type 0} (P : A → Type 0) (xs : List A) (i : ℕ) (x : A) → slice_get xs i ≡ Some x → AllByRecursion P xs → P x
all_at P [] i x e h = cc
all_at P (y ∷ xs) zero x e h = let same : y ≡ x = cc in subst P same h.0
all_at P (y ∷ xs) (suc i) x e h = all_at P xs i x e h.1

pub all_from : {A : Type 0} (P : A → Type 0) (xs : List A) → ((i : ℕ) (x : A) → slice_get xs i ≡ Some x → P x) → AllByRecursion P xs
all_from P [] h = tt
all_from P (x ∷ xs) h = (h 0 x refl, all_from P xs (λ i. h (suc i)))

-- the digits of a number
module _ (P : ℕ → Type 0) (digit : (d : ℕ) → d < 10 → P (48 + d)) where
  onto : (k n : ℕ) (acc : List ℕ) → AllByRecursion P acc → AllByRecursion P (digits_onto k 10 false n acc)
  onto zero n acc h = h
  onto (suc k) n acc h = go (n / 10 == 0) (onto k (n / 10) _ here)
    where
      here : AllByRecursion P (digit_glyph false (n % 10) ∷ acc)
      here = (rw (lt-ltb (n % 10) 10 (omega arith)) (digit (n % 10) (omega arith)), h)

      go : (b : Bool) → AllByRecursion P (digits_onto k 10 false (n / 10) (digit_glyph false (n % 10) ∷ acc))
          → AllByRecursion P (if b then digit_glyph false (n % 10) ∷ acc else digits_onto k 10 false (n / 10) (digit_glyph false (n % 10) ∷ acc))
      go true more = here
      go false more = more

  pub decimal_all : (n : ℕ) → AllByRecursion P (decimal n)
  unfolding digits
  decimal_all n = onto 64 n [] tt

abbrev pub Has : (Element → Type 0) → List Element → Type 0
Has P [] = ⊥
Has P (x ∷ xs) = P x ⊎ Has P xs

pub has_left : (P : Element → Type 0) (xs ys : List Element) → Has P xs → Has P (xs ++ ys)
has_left P [] ys h = absurd h
has_left P (x ∷ xs) ys (inl p) = inl p
has_left P (x ∷ xs) ys (inr h) = inr (has_left P xs ys h)

pub has_right : (P : Element → Type 0) (xs ys : List Element) → Has P ys → Has P (xs ++ ys)
has_right P [] ys h = h
has_right P (x ∷ xs) ys h = inr (has_right P xs ys h)

pub has_map : (P Q : Element → Type 0) (f : Element → Element) → ((x : Element) → P x → Q (f x)) → (xs : List Element) → Has P xs → Has Q (map f xs)
has_map P Q f go [] h = absurd h
has_map P Q f go (x ∷ xs) (inl p) = inl (go x p)
has_map P Q f go (x ∷ xs) (inr h) = inr (has_map P Q f go xs h)

-- what is described of an item that isn't a structure
abbrev pub what_of : Item → List ℕ → ℤ → What
what_of (items.Num kind) caps z = whats.Number (record { kind = kind; capacities = caps; default = z })
what_of (items.Equal kind y) caps z = whats.Constant kind y
what_of (items.Unused n) caps z = whats.Filler n
what_of (items.Struct j) caps z = Rule true

-- P holds inside of a field, and Q behind its name
module _ (Good : Field → Type 0) (P Q : Element → Type 0)
    (alone : (f : Field) → Good f → (caps : List ℕ) (at : ℕ) → P (single at (what_of f.item caps f.default))) (dot : (x : Element) → P x → P (dotted x))
    (inside : (f : Field) → Good f → (number e : ℕ) (c p : Bool) (x : Element) → P x → Q (behind (number, e) (f.name ++ index_text f.count e) c p x))
    (end : (at : ℕ) (b : Bool) → Q (single at (Rule b))) (less : (x : Element) → Q x → P x) where
  abbrev Have : Shape → Type 0
  Have s = (n : List ℤ) (at : ℕ) → Each P (s.elements n at)

  abbrev AreGood : List Field → Type 0
  AreGood = AllByRecursion Good

  item_each : (ss : List Shape) → ((j : ℕ) → Have (get_or ss j no_shape)) → (i : Item) (caps : List ℕ) (z : ℤ) (n : List ℤ) (at : ℕ)
      → P (single at (what_of i caps z)) → Each P (item_elements ss i caps z n at)
  item_each ss h (items.Struct j) caps z n at p = all_map P P dotted dot ((get_or ss j no_shape).elements n at) (h j n at)
  item_each ss h _ caps z n at p = (p, tt)

  array_each : (f : Field) → Good f → (stand : Stand) (part : ℕ → List Element) → ((at : ℕ) → Each P (part at)) → (step e n at : ℕ)
      → Each Q (array_elements f stand part step e n at)
  array_each f good stand part h step e zero at = tt
  array_each f good stand part h step e (suc n) at =
      all_both Q (map (behind _ _ _ _) (part at)) _ (all_map P Q _ (inside f good stand.number e _ _) (part at) (h at))
      (array_each f good stand part h step (suc e) n (at + step))

  fields_each : (ss : List Shape) → ((j : ℕ) → Have (get_or ss j no_shape)) → (fields : List Field) (v : ℕ) (own : ℕ → ℕ) (n : List ℤ) (i at : ℕ)
      → (fs : List Field) → AreGood fs → Each Q (elements_from ss fields v own n i at fs)
  fields_each ss h fields v own n i at [] good = tt
  fields_each ss h fields v own n i at (f ∷ fs) good =
      all_both Q (field_elements ss fields v own n i at f) _
      (array_each f good.0 (stand_of i f v own) _ (λ at. item_each ss h f.item (counted i fields) f.default n at (alone f good.0 _ at))
      _ 0 (capacity_of f.count) at)
      (fields_each ss h fields v own n (suc i) _ fs good.1)

  desc_each : (ss : List Shape) → ((j : ℕ) → Have (get_or ss j no_shape)) → (d : Desc) (v : ℕ) → AreGood d.fields → (n : List ℤ) (at : ℕ)
      → Each Q (desc_elements ss d v n at)
  desc_each ss h d v good n at =
      all_both Q (elements_from ss d.fields v _ n 0 at d.fields) _ (fields_each ss h d.fields v _ n 0 at d.fields good) (end _ _, tt)

  shapes_each : (ds : List Desc) → ((j : ℕ) → AreGood (get_or ds j no_desc).fields) → (k j : ℕ) → Have (get_or (first shape ds k) j no_shape)
  unfolding first
  shapes_each ds good zero j = λ n at. tt
  shapes_each ds good (suc k) j =
      let ss = first shape ds k in
      let d = get_or ds k no_desc in
      one_more Have no_shape (λ n at. tt) ss (shapes_each ds good k) (shape ss d)
      (λ n at. all_more (desc_elements ss d d.version n at) (desc_each ss (shapes_each ds good k) d d.version (good k) n at) less) j

  pub elements_each : (set : Set) → ((j : ℕ) → AreGood (get_or set.structs j no_desc).fields) → (d : Desc) (v : ℕ) → AreGood d.fields → (n : List ℤ) (at : ℕ)
      → Each Q (elements_in set d v n at)
  elements_each set structs d v good n at = desc_each (shapes set) (shapes_each set.structs structs _) d v good n at

-- ---- what f makes of the first structures, one after the other

pub both : {B : Type 0} (xs ys zs ws : List B) → xs ≡ ys → zs ≡ ws → xs ++ zs ≡ ys ++ ws
both xs ys zs ws e f = rw (e, f)

-- the cells of structures, by their shapes
pub shapes_cells : (ds : List Desc) (k : ℕ) → cells_in (first shape ds k) ≡ first desc_cells ds k
shapes_cells ds k = grind (arith, first_cells, shape)

pub cells_at : (ss : List Shape) (j : ℕ) → get_or (cells_in ss) j [] ≡ (get_or ss j no_shape).cells
cells_at (s ∷ ss) (suc j) = cells_at ss j
cells_at _ _ = refl
