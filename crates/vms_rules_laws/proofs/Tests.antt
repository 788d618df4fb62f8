-- The levels, tests of lists and of formulas, and numbers of items that the walk computes.
use Rattle.vms_rules_laws.proofs.Facade
use Facade.{◌≡◌, ◌⊎◌, ℕ, zero, suc, ◌+◌, ◌<◌, ◌≤◌, max, nat_lt, true, false, List, [], ◌∷◌, length, get_or, length-append}
use Facade.{inl, inr, refl, arith, max-le, cases_Bool, ltb-true, get_or_past, get_or_from_slice_get, slice_get-get_or, slice_get_within, Item, Struct, first}
use Facade.{no_desc, depth, nodes, Formula, AtLeast, Not, And, Or, Field, Desc, deepest, item_depth, struct_depths, first_at, first_long, At, IsWithinTest}
use Facade.{Nests, UsesOn, parts_of, Bool, not, take, map, le_decides, None, subst, Decides, list_all, Decides-and, Decides-like, Decides-ltb, Decides-not}
use Facade.{Decides-or, bytes_eq-Decides, Kind, Num, Count, One, Own, Parent, is_earlier_in, is_num, is_one, is_small_test, is_steady_in, names_well, nobody}
use Facade.{Cell, is_one_of, IsEarlier, IsNew, IsSmall, IsSteady, NamesOnly, Nobody, ◌*◌, ◌++◌, ℤ, sym, ◌∙◌, field_cells, Sub, Device, Set}
use Facade.{capacity_of, desc_cells, struct_cells, all_hold, item_count, items_in, struct_items, subs_items, devices_items, Element, Shape, no_shape, shape}
use Facade.{cells_in, dotted, behind, item_elements, Stand, array_elements, field_elements, elements_from, desc_elements, absent, elements_in, subs_elements}
use Facade.{two_more, items_among, items_of}

-- ---- tests

pub part_count : (t : Formula) → length (parts_of t) ≡ nodes t
part_count (Not t) = omega (arith, part_count t)
part_count (And s t) = omega (arith, part_count s, part_count t, length-append (parts_of s) (parts_of t))
part_count (Or s t) = omega (arith, part_count s, part_count t, length-append (parts_of s) (parts_of t))
part_count _ = refl

pub shallow_test : (n : ℕ) (t : Formula) → (Nests n t → ⊥) → depth t ≤ n
shallow_test zero t h = absurd (h tt)
shallow_test (suc n) (Not t) h = omega (arith, shallow_test n t (λ nests. h (t, refl, nests)))
shallow_test (suc n) (And s t) h = grind (arith, shallow_test n s (λ nests. h (s, inl refl, nests)), shallow_test n t (λ nests. h (t, inr refl, nests)))
shallow_test (suc n) (Or s t) h = grind (arith, shallow_test n s (λ nests. h (s, inl refl, nests)), shallow_test n t (λ nests. h (t, inr refl, nests)))
shallow_test (suc n) _ h = omega arith

some_depth : (t : Formula) → 1 ≤ depth t
some_depth (AtLeast m) = omega arith
some_depth _ = omega arith

-- a test within another has fewer levels
within_either : (s t u : Formula) → (s ≡ t) ⊎ (s ≡ u) → depth s < 1 + max (depth t) (depth u)
within_either s t u w = grind arith

within_less : (s t : Formula) → IsWithinTest s t → depth s < depth t
within_less s t w = grind (arith, within_either)

pub deep_test : (n : ℕ) (t : Formula) → Nests n t → n < depth t
deep_test zero t h = some_depth t
deep_test (suc n) t h = grind (arith, within_less, deep_test n h.0 h.2)

-- ---- structures

-- the depths of the first k structures
abbrev depths : List Desc → ℕ → List ℕ
depths ds k = first (λ earlier d. 1 + deepest earlier d.fields) ds k

abbrev depth_at : List Desc → ℕ → ℕ
depth_at ds i = get_or (struct_depths ds) i 0

most-deep : (sizes : List ℕ) (n : ℕ) (fs : List Field) → ((k : ℕ) (f : Field) → At fs k f → item_depth sizes f.item ≤ n) → deepest sizes fs ≤ n
most-deep sizes n [] h = omega arith
most-deep sizes n (f ∷ fs) h = max-le (h 0 f refl) (most-deep sizes n fs (λ k g e. h (suc k) g e))

as-deep : (sizes : List ℕ) (fs : List Field) (k : ℕ) (f : Field) → At fs k f → item_depth sizes f.item ≤ deepest sizes fs
as-deep sizes [] k f e = cc
as-deep sizes (g ∷ fs) zero f e = grind arith
as-deep sizes (g ∷ fs) (suc k) f e = grind (arith, as-deep sizes fs k f e)

module _ (ds : List Desc) where
  own-depth : (i : ℕ) (d : Desc) → At ds i d → depth_at ds i ≡ 1 + deepest (depths ds i) d.fields
  own-depth i d e =
      cc (first_at (λ earlier d. 1 + deepest earlier d.fields) ds 0 (length ds) i (slice_get_within ds i d e), get_or_from_slice_get ds i d no_desc e)

  -- the depth of an earlier structure
  earlier-depth : (i j : ℕ) → i < length ds → j < i → get_or (depths ds i) j 0 ≡ depth_at ds j
  earlier-depth i j l e = grind (arith, first_at)

  later-depth : (i j : ℕ) → i ≤ j → get_or (depths ds i) j 0 ≡ 0
  later-depth i j l = grind (arith, first_long, get_or_past)

  pub deep_struct : (n i : ℕ) → i < length ds → UsesOn ds n i → n < depth_at ds i
  deep_struct zero i l h = let own = own-depth i (get_or ds i no_desc) (slice_get-get_or _ _ _ l) in omega arith
  deep_struct (suc n) i l h =
      let j = h.0 in
      let uses = h.1 in
      let own = own-depth i uses.desc uses.there in
      let same = earlier-depth _ _ l uses.earlier in
      let among : item_depth (depths ds i) uses.field.item ≤ deepest (depths ds i) uses.desc.fields = as-deep _ _ _ _ uses.among in
      let here : get_or (depths ds i) j 0 ≤ deepest (depths ds i) uses.desc.fields = rw uses.is at among in
      omega (arith, deep_struct n j (omega arith) h.2)

  -- a structure in which uses nest less than n times has depth at most n
  abbrev IsBounded : ℕ → Type 0
  IsBounded n = (i : ℕ) (d : Desc) → At ds i d → (UsesOn ds n i → ⊥) → depth_at ds i ≤ n

  bounded-item : (n i : ℕ) (d : Desc) → At ds i d → IsBounded n → (UsesOn ds (suc n) i → ⊥) → (k : ℕ) (f : Field) → At d.fields k f → (item : Item)
      → f.item ≡ item → item_depth (depths ds i) item ≤ n
  bounded-item n i d there before h k f e (Struct j) is = by (cases_Bool (nat_lt j i))
    where
      by : (nat_lt j i ≡ true) ⊎ (nat_lt j i ≡ false) → get_or (depths ds i) j 0 ≤ n
      by (inl before_i) =
          let less : j < i = ltb-true j i before_i in
          let l = slice_get_within ds i d there in
          let same = earlier-depth i j l less in
          let most =
          before j (get_or ds j no_desc) (slice_get-get_or ds j no_desc (omega arith))
          (λ on. h (j, record { desc = d; there = there; place = k; field = f; among = e; is = is; earlier = less }, on)) in
          omega arith
      by (inr behind_i) = grind (arith, later-depth)
  bounded-item n i d there before h k f e _ is = omega arith

  pub shallow_struct : (n i : ℕ) (d : Desc) → At ds i d → (UsesOn ds n i → ⊥) → depth_at ds i ≤ n
  shallow_struct zero i d e h = absurd (h tt)
  shallow_struct (suc n) i d e h = omega (arith, most-deep _ n _ (λ k f g. bounded-item n i d e (shallow_struct n) h k f g f.item refl), own-depth i d e)

-- ---- the relations that the tests of lists and of formulas decide

pub never : false ≡ true → ⊥
never e = cc

-- ---- lists

pub at_places : {X : Type 0} (P : X → Type 0) (y : X) (ys : List X) → P y → ((k : ℕ) (x : X) → At ys k x → P x) → (k : ℕ) (x : X) → At (y ∷ ys) k x → P x
at_places P y ys here later zero x e = let same : y ≡ x = cc in subst P same here
at_places P y ys here later (suc k) x e = later k x e

pub all_decides : {X : Type 0} (p : X → Bool) (P : X → Type 0) → ((x : X) → Decides (p x) (P x)) → (xs : List X)
    → Decides (list_all p xs) ((k : ℕ) (x : X) → At xs k x → P x)
all_decides p P each [] = (λ e k x at'. cc, λ h. refl)
all_decides p P each (y ∷ ys) =
    Decides-like _ (λ h. at_places P _ _ h.0 h.1) (λ h. (h 0 y refl, λ k x at'. h (suc k) x at')) (Decides-and _ _ (each y) (all_decides p P each ys))

pub one_of_decides : (names : List (List ℕ)) (name : List ℕ) → Decides (is_one_of names name) ((k : ℕ) × At names k name)
one_of_decides [] name = (λ e. cc, λ h. cc)
one_of_decides (m ∷ names) name =
    Decides-like _ (λ h. elim h [ inl a ↦ (0, rw a) | inr r ↦ (suc r.0, r.1) ]) (λ h. back h.0 h.1)
    (Decides-or _ _ (bytes_eq-Decides m name) (one_of_decides names name))
  where
    back : (k : ℕ) → At (m ∷ names) k name → (m ≡ name) ⊎ ((k : ℕ) × At names k name)
    back zero e = inl cc
    back (suc k) e = inr (k, e)

-- an element among the first i
mapped : {X : Type 0} (f : X → List ℕ) (xs : List X) (i k : ℕ) (n : List ℕ) → At (map f (take i xs)) k n → (x : X) × (k < i) × At xs k x × (f x ≡ n)
mapped f xs zero k n e = cc
mapped f [] (suc i) k n e = cc
mapped f (y ∷ ys) (suc i) zero n e = let same : f y ≡ n = cc in (y, omega arith, refl, same)
mapped f (y ∷ ys) (suc i) (suc k) n e = let r = mapped f ys i k n e in (r.0, omega arith, r.2, r.3)

unmapped : {X : Type 0} (f : X → List ℕ) (xs : List X) (i k : ℕ) (x : X) → k < i → At xs k x → At (map f (take i xs)) k (f x)
unmapped f xs zero k x lt e = absurd (omega arith)
unmapped f [] (suc i) k x lt e = cc
unmapped f (y ∷ ys) (suc i) zero x lt e = let same : y ≡ x = cc in rw same
unmapped f (y ∷ ys) (suc i) (suc k) x lt e = unmapped f ys i k x (omega arith) e

pub new_decides : {X : Type 0} (f : X → List ℕ) (xs : List X) (i : ℕ) (name : List ℕ) → Decides (not (is_one_of (map f (take i xs)) name)) (IsNew f xs i name)
new_decides f xs i name =
    Decides-like _ (λ none j x lt there same. none (j, rw same at (unmapped f xs i j x lt there)))
    (λ h m. let r = mapped f _ _ _ _ m.1 in h m.0 r.0 r.1 r.2 r.3) (Decides-not _ (one_of_decides _ name))

-- ---- formulas

pub small_decides : (t : Formula) → Decides (is_small_test t) (IsSmall t)
small_decides t =
    Decides-like _
    (λ h. record { few = omega (arith, h.0, part_count t); shallow = λ nests. let deep = deep_test 16 t nests in absurd (omega (arith, h.1)) })
    (λ h. (omega (arith, h.few, part_count t), shallow_test 16 t h.shallow)) (Decides-and _ _ (le_decides (nodes t) 64) (le_decides (depth t) 16))

number_decides : (item : Item) → Decides (is_num item) ((kind : Kind) × (item ≡ Num kind))
number_decides (Num kind) = (λ e. (kind, refl), λ h. refl)
number_decides _ = (λ e. cc, λ h. let e = h.1 in cc)

pub one_decides : (c : Count) → Decides (is_one c) (c ≡ One)
one_decides One = (λ e. refl, λ e. refl)
one_decides _ = (λ e. cc, λ e. cc)

pub steady_decides : (d : Desc) (k : ℕ) → Decides (is_steady_in d k) (IsSteady d k)
steady_decides d k = search (arith, number_decides, one_decides, le_decides)

pub earlier_decides : (d : Desc) (i k : ℕ) → Decides (is_earlier_in d i k) (IsEarlier d i k)
earlier_decides d i k = Decides-and _ _ (Decides-ltb k i) (steady_decides d k)

pub nobody_decides : (k : ℕ) → Decides (nobody k) (Nobody k)
nobody_decides k = (λ e. never e, λ h. absurd h)

-- the fields that two tests name
module _ (own parent : ℕ → Bool) (O P : ℕ → Type 0) where
  abbrev Of : Formula → Type 0
  Of t = Decides (names_well own parent t) (NamesOnly O P t)

  both_name : (s t : Formula) → Of s → Of t → Of (And s t)
  both_name s t r q = search (arith)

  or_names : (s t : Formula) → Of (And s t) → Of (Or s t)
  or_names s t r = (λ e. let g = r.0 e in record { own = g.own; parent = g.parent }, λ h. r.1 (record { own = h.own; parent = h.parent }))

  pub names_decides : ((k : ℕ) → Decides (own k) (O k)) → ((k : ℕ) → Decides (parent k) (P k)) → (t : Formula) → Of t
  names_decides o p (Cell Own j mask rel value) =
      (λ e. record { own = λ k x. subst O x.1 ((o j).0 e); parent = λ k x. cc }, λ h. (o j).1 (h.own j (refl, refl)))
  names_decides o p (Cell Parent j mask rel value) =
      (λ e. record { own = λ k x. cc; parent = λ k x. subst P x.1 ((p j).0 e) }, λ h. (p j).1 (h.parent j (refl, refl)))
  names_decides o p (Not t) = search (arith, names_decides o p t)
  names_decides o p (And s t) = both_name _ _ (names_decides o p s) (names_decides o p t)
  names_decides o p (Or s t) = or_names s t (both_name _ _ (names_decides o p s) (names_decides o p t))
  names_decides o p _ = (λ e. record { own = λ k x. absurd x; parent = λ k x. absurd x }, λ h. refl)

-- ---- a set has the number of items that the walk computes

items_append : (xs ys : List Element) → items_among (xs ++ ys) ≡ items_among xs + items_among ys
items_append [] ys = omega arith
items_append (x ∷ xs) ys = omega (arith, items_append xs ys)

items_behind : (step : ℕ × ℕ) (text : List ℕ) (c p : Bool) (xs : List Element) → items_among (map (behind step text c p) xs) ≡ items_among xs
items_behind step text c p [] = refl
items_behind step text c p (x ∷ xs) = rw (items_behind step text c p xs)

items_dotted : (xs : List Element) → items_among (map dotted xs) ≡ items_among xs
items_dotted [] = refl
items_dotted (x ∷ xs) = rw (items_dotted xs)

items_absent : (xs : List Element) → items_among (map absent xs) ≡ items_among xs
items_absent [] = refl
items_absent (x ∷ xs) = rw (items_absent xs)

-- each structure's elements have the number of items that its size says
abbrev AreCounted : List Shape → List ℕ → Type 0
AreCounted ss sizes = (j : ℕ) (numbers : List ℤ) (at : ℕ) → items_among ((get_or ss j no_shape).elements numbers at) ≡ get_or sizes j 0

module _ (ss : List Shape) (sizes : List ℕ) (good : AreCounted ss sizes) where
  item_counts : (item : Item) (caps : List ℕ) (z : ℤ) (n : List ℤ) (at : ℕ) → items_among (item_elements ss item caps z n at) ≡ item_count sizes item
  item_counts (Struct j) caps z n at = grind (arith, items_dotted)
  item_counts _ caps z n at = refl

  array_counts : (f : Field) (stand : Stand) (part : ℕ → List Element) (size : ℕ) → ((at : ℕ) → items_among (part at) ≡ size)
      → (step e n at : ℕ) → items_among (array_elements f stand part step e n at) ≡ n * size
  array_counts f stand part size h step e zero at = omega arith
  array_counts f stand part size h step e (suc n) at = grind (arith, behind, items_behind, items_append, array_counts f stand part size h step (suc e) n (at + step))

  module _ (fields : List Field) (v : ℕ) (own : ℕ → ℕ) (n : List ℤ) where
    field_counts : (i at : ℕ) (f : Field) → items_among (field_elements ss fields v own n i at f) ≡ capacity_of f.count * item_count sizes f.item
    field_counts i at f = grind (arith, array_counts, item_counts)

    fields_count : (i at : ℕ) (fs : List Field) → items_among (elements_from ss fields v own n i at fs) ≡ items_in sizes fs
    fields_count i at [] = refl
    fields_count i at (f ∷ fs) = rw (items_append, field_counts i at f, fields_count (suc i) (at + length (field_cells (cells_in ss) fields i f)) fs) refl

  desc_counts : (d : Desc) (v : ℕ) (n : List ℤ) (at : ℕ) → items_among (desc_elements ss d v n at) ≡ items_in sizes d.fields
  desc_counts d v n at = grind (arith, all_hold, fields_count, items_append)

are_counted : (ds : List Desc) (k : ℕ) → AreCounted (first shape ds k) (first (λ sizes d. items_in sizes d.fields) ds k)
unfolding first
are_counted ds zero j n at = refl
are_counted ds (suc k) j n at =
    let earlier = first shape ds k in
    let sizes = first (λ sizes d. items_in sizes d.fields) ds k in
    two_more (λ (s : Shape) (m : ℕ). (n : List ℤ) (at : ℕ) → items_among (s.elements n at) ≡ m) no_shape 0 (λ n at. refl) earlier sizes
    (first_long shape ds k ∙ sym (first_long (λ sizes d. items_in sizes d.fields) ds k)) (are_counted ds k) (shape earlier (get_or ds k no_desc))
    (items_in sizes (get_or ds k no_desc).fields)
    (λ n at. desc_counts earlier sizes (are_counted ds k) (get_or ds k no_desc) (get_or ds k no_desc).version n at) j n at

module _ (set : Set) where
  part_counts : (d : Desc) (v : ℕ) (n : List ℤ) (at : ℕ) → items_among (elements_in set d v n at) ≡ items_in (struct_items set.structs) d.fields
  part_counts d v n at = desc_counts _ _ (are_counted _ _) d v n at

  subs_count : (subs : List Sub) (n : List ℤ) (at : ℕ)
      → items_among (subs_elements set subs (map (λ s. None) subs) n at) ≡ subs_items (struct_items set.structs) subs
  subs_count [] n at = refl
  subs_count (s ∷ subs) n at =
      let next = at + length (desc_cells (struct_cells set) s.desc) in
      let own = items_absent (elements_in set s.desc s.desc.version n at) ∙ part_counts s.desc s.desc.version n at in
      let rest = subs_count subs n next in
      omega (arith, items_append (map absent (elements_in set s.desc s.desc.version n at)) (subs_elements set subs (map (λ s. None) subs) n next))

  pub set_counts : (devices : List Device) → items_of set devices ≡ devices_items (struct_items set.structs) devices
  set_counts [] = refl
  set_counts (d ∷ devices) = grind (arith, part_counts, subs_count, items_append, set_counts devices)
