-- Descriptions, structures and whole sets: no rule depends on where cells begin, and what is found by its name.
use Rattle.vms_check.proofs.Facade
use Facade.{◌≡◌, ℕ, suc, ◌+◌, List, [], ◌∷◌, ◌++◌, length, map, Bool, true, false, Option, Some, None, refl, sym, ap, ◌∙◌, drop}
use Facade.{◌<◌, get_or, arith, ltb-true, slice_get-get_or, fun_ext, Part, Place, field_cells, first, no_desc, no_field, struct_cells, or_else}
use Facade.{first_answer, position, Formula, Field, Desc, Set, Device, Sub, in_field, here, Comparer, Entry, compare_desc, compare_fields, compare_validations}
use Facade.{entry_of, failing_pair, pair_structs, position_from, present, present_from, comparer_of, no_comparer, compare_device, compare_sub, compare_subs}
use Facade.{first_mismatch, is_in, presence, failing_number, IsFirst, fields_on, pair_mismatch, rules_on, structs_on, table_on, struct_mismatch, table}
use Facade.{fields_from, position_in, desc_on, position_on, Mismatch, Item, Struct, Present, Side, uses_below, first_at, first_long, is_well_formed, HasPart}
use Facade.{desc_at, sub_at, reach, field_clean, reach_whole, find_device, find_sub, index, found_inside, slice_get, get_or_from_slice_get, slice_get_within}
use Facade.{device_mismatch, is_missing, lost_mismatch, machines_mismatch, AllByRecursion}
use Rattle.vms_spec.specs.Layout.{Cell}
use Rattle.vms_desc.proofs.Clean.{struct_clean}
use Rattle.vms_parts.specs.Devices.{device_at}
use Rattle.vms_spec.specs.declared.Part.TheVariants as parts

-- ---- answers one after the other

pub both : {X : Type 0} (x y z : Option X) → or_else x (or_else y z) ≡ or_else (or_else x y) z
both x y z = grind arith

pub failing_some : (rules : List (ℕ × Bool)) (a b : Place) (r : ℕ) → failing_number rules ≡ Some r
    → failing_pair rules a b ≡ Some (record { rule = r; in_old = a; in_new = b })
failing_some [] a b r e = cc
failing_some ((rule, true) ∷ rules) a b r e = failing_some rules a b r e
failing_some ((rule, false) ∷ rules) a b r e = let same : rule ≡ r = cc in rw same

pub failing_none : (rules : List (ℕ × Bool)) (a b : Place) → failing_number rules ≡ None → failing_pair rules a b ≡ None
failing_none [] a b e = refl
failing_none ((rule, true) ∷ rules) a b e = failing_none rules a b e
failing_none ((rule, false) ∷ rules) a b e = cc

-- ---- without places

abbrev unplaced : Entry → Entry
unplaced e = record { index = e.index; place = 0; field = e.field; rest = e.rest }

one_unplaced : (i at : ℕ) (f : Field) (o : Option (Option Formula)) (es fs : List Entry) → map unplaced es ≡ fs
    → map unplaced (entry_of i at f o ++ es) ≡ entry_of i 0 f o ++ fs
one_unplaced i at f o es fs e = grind arith

present_unplaced : (structs : List (List Cell)) (all : List Field) (v i at : ℕ) (fs : List Field)
    → map unplaced (present_from structs all v i at fs) ≡ fields_from v i fs
present_unplaced structs all v i at [] = refl
present_unplaced structs all v i at (f ∷ fs) =
    one_unplaced i at f (presence v f.test f.since) _ _ (present_unplaced structs all v (suc i) (at + length (field_cells structs all i f)) fs)

position_unplaced : (p : ℕ) (es : List Entry) (k : ℕ) → position_from p (map unplaced es) k ≡ position_from p es k
position_unplaced p [] k = refl
position_unplaced p (e ∷ es) k = rw (position_unplaced (suc p) es k)

pub positions_are : (structs : List (List Cell)) (d : Desc) (v : ℕ) → position_from 0 (present structs d v) ≡ position_in v d.fields
positions_are structs d v = fun_ext (λ (k : ℕ). rw (← (position_unplaced 0 (present structs d v) k), present_unplaced structs d.fields v 0 0 d.fields))

module _ (structs : List Comparer) (a b : Desc) (v w : ℕ) (in_a in_b : Part) (o n : ℕ → Option ℕ) where
  abbrev compares : List Entry → List Entry → Option Mismatch
  compares es fs = compare_fields structs a b v w in_a in_b o n es fs

  fields_unplaced : (es fs : List Entry) → compares (map unplaced es) (map unplaced fs) ≡ compares es fs
  fields_unplaced (e ∷ es) (f ∷ fs) = cc (fields_unplaced es fs)
  fields_unplaced [] [] = refl
  fields_unplaced _ _ = refl

pub desc_split : (structs : List Comparer) (x y : List (List Cell)) (a b : Desc) (v w : ℕ) (in_a in_b : Part) → compare_desc structs x y a b v w in_a in_b
    ≡ or_else (compare_fields structs a b v w in_a in_b (position_in v a.fields) (position_in w b.fields) (fields_from v 0 a.fields) (fields_from w 0 b.fields))
    (compare_validations structs a b v w in_a in_b (position_in v a.fields) (position_in w b.fields))
desc_split structs x y a b v w in_a in_b =
    let plain = fields_unplaced structs a b v w in_a in_b (position_in v a.fields) (position_in w b.fields) (present x a v) (present y b w) in
    rw (positions_are x a v, positions_are y b w, ← plain, present_unplaced x a.fields v 0 0 a.fields, present_unplaced y b.fields w 0 0 b.fields)

-- ---- The walk over the present fields of both sides, one pair after the other.

module _ (s t : Side) where
  abbrev old_from : ℕ → List Entry
  old_from i = fields_from s.version i (drop i (desc_on s).fields)

  abbrev new_from : ℕ → List Entry
  new_from i = fields_from t.version i (drop i (desc_on t).fields)

  step : (i j : ℕ) (p q : Present) → IsFirst s i p → IsFirst t j q
      → fields_on s t (old_from i) (new_from j) ≡ or_else (pair_mismatch s t p q) (fields_on s t (old_from (p.number + 1)) (new_from (q.number + 1)))
  step i j p q f g =
      rw (f.entries, g.entries) (both (failing_pair (rules_on s t p q) (in_field s.part p.number) (in_field t.part q.number)) (structs_on s t p q) _)

  pub pair_passes : (i j : ℕ) (p q : Present) (r whole : Option Mismatch) → IsFirst s i p → IsFirst t j q → r ≡ pair_mismatch s t p q → r ≡ None
      → fields_on s t (old_from i) (new_from j) ≡ whole → fields_on s t (old_from (p.number + 1)) (new_from (q.number + 1)) ≡ whole
  pair_passes i j p q r whole f g is none e = rw (step i j p q f g, ← is, none) at e

  pub pair_stops : (i j : ℕ) (p q : Present) (r whole : Option Mismatch) (m : Mismatch) → IsFirst s i p → IsFirst t j q → r ≡ pair_mismatch s t p q → r ≡ Some m
      → fields_on s t (old_from i) (new_from j) ≡ whole → Some m ≡ whole
  pair_stops i j p q r whole m f g is some e = rw (step i j p q f g, ← is, some) at e

  -- ---- one pair

  pub rule_fails : (p q : Present) (o : Option ℕ) (r : ℕ) (a b : Place) → o ≡ failing_number (rules_on s t p q) → o ≡ Some r → a ≡ in_field s.part p.number
      → b ≡ in_field t.part q.number
      → Some (record { rule = r; in_old = a; in_new = b }) ≡ pair_mismatch s t p q
  rule_fails p q o r a b is some in_a in_b =
      rw (in_a, in_b, failing_some (rules_on s t p q) (in_field s.part p.number) (in_field t.part q.number) r (sym is ∙ some))

  abbrev items_on : Item → Item → Option Mismatch
  items_on a b = pair_structs (table_on s t) (desc_on s) (desc_on t) s.version t.version s.part t.part (position_on s) (position_on t) a b

  no_structs : (a b : Item) → ((i : ℕ) → a ≡ Struct i → ⊥) → items_on a b ≡ None
  no_structs a b h = grind arith

  pub passes_whole : (p q : Present) (o : Option ℕ) → o ≡ failing_number (rules_on s t p q) → o ≡ None → ((i : ℕ) → p.field.now.item ≡ Struct i → ⊥)
      → None ≡ pair_mismatch s t p q
  passes_whole p q o is none h = grind (arith, failing_none, no_structs)

-- ---- The structures of two sets: how one compares is known from those of smaller numbers, so the whole table says it too. The
-- end of a table isn't used.

-- each entry that is a structure has one of a number below k
abbrev pub AllBelow : ℕ → List Entry → Type 0
AllBelow k es = AllByRecursion (λ e. uses_below k e.field.item ≡ true) es

pub one_below : (k i at : ℕ) (f : Field) (o : Option (Option Formula)) (es : List Entry) → uses_below k f.item ≡ true → AllBelow k es
    → AllBelow k (entry_of i at f o ++ es)
one_below k i at f o es h rest = grind arith

pub all_uses : (k v i : ℕ) (fs : List Field) → ((j : ℕ) (f : Field) → slice_get fs j ≡ Some f → uses_below k f.item ≡ true) → AllBelow k (fields_from v i fs)
all_uses k v i [] h = tt
all_uses k v i (f ∷ fs) h = one_below k i 0 f (presence v f.test f.since) _ (h 0 f refl) (all_uses k v (suc i) fs (λ j g e. h (suc j) g e))

module _ (k : ℕ) (ts us : List Comparer) (agree : (j : ℕ) → j < k → get_or ts j no_comparer ≡ get_or us j no_comparer) (a b : Desc) (v w : ℕ)
    (in_a in_b : Part) where
  structs_same : (o n : ℕ → Option ℕ) (x y : Item) → uses_below k y ≡ true
      → pair_structs ts a b v w in_a in_b o n x y ≡ pair_structs us a b v w in_a in_b o n x y
  structs_same o n x y h = grind arith

  fields_same : (o n : ℕ → Option ℕ) (es fs : List Entry) → AllBelow k fs
      → compare_fields ts a b v w in_a in_b o n es fs ≡ compare_fields us a b v w in_a in_b o n es fs
  fields_same o n (e ∷ es) (f ∷ fs) h = cc (structs_same o n e.field.item f.field.item h.0, fields_same o n es fs h.1)
  fields_same o n es fs h = refl

  descs_same : (x y : List (List Cell)) → ((j : ℕ) (f : Field) → slice_get b.fields j ≡ Some f → uses_below k f.item ≡ true)
      → compare_desc ts x y a b v w in_a in_b ≡ compare_desc us x y a b v w in_a in_b
  descs_same x y h =
      rw (desc_split ts x y a b v w in_a in_b, desc_split us x y a b v w in_a in_b)
      (cc (fields_same _ _ (fields_from v 0 a.fields) (fields_from w 0 b.fields) (all_uses k w 0 b.fields h)))

-- ---- two structures

module _ (old new : Set) (well : is_well_formed new ≡ true) where
  abbrev at_number : List Comparer → Desc → Comparer
  at_number earlier d = comparer_of earlier (struct_cells old) (struct_cells new) old.structs (length earlier) d

  abbrev rows : ℕ → List Comparer
  rows k = first at_number new.structs k

  agrees : (j : ℕ) → j < length new.structs → (l : ℕ) → l < j → get_or (rows j) l no_comparer ≡ get_or (table old new) l no_comparer
  agrees j lt l less = grind (arith, first_at)

  -- each side at its own version
  pub structs_are : (i j v w : ℕ) → j < length new.structs → v ≡ (get_or old.structs i no_desc).version → w ≡ (get_or new.structs j no_desc).version
      → struct_mismatch old new i j
      ≡ compare_desc (table old new) (struct_cells old) (struct_cells new) (get_or old.structs i no_desc) (get_or new.structs j no_desc) v w (parts.Struct i)
      (parts.Struct j)
  structs_are i j v w lt is_v is_w =
      let a = get_or old.structs i no_desc in
      let b = get_or new.structs j no_desc in
      rw (first_at at_number new.structs no_comparer (length new.structs) j lt, first_long at_number new.structs j, is_v, is_w)
      (descs_same j (rows j) (table old new) (agrees j lt) a b a.version b.version (parts.Struct i) (parts.Struct j) _ _
      (λ l f e. rw (get_or_from_slice_get b.fields l f no_field e) at ((struct_clean new well j lt).fields l (slice_get_within b.fields l f e)).uses))

-- ---- which structures a part uses

pub uses_at : (set : Set) → is_well_formed set ≡ true → (part : Part) → HasPart set part → (k : ℕ) → k < length (desc_at set part).fields → (f : Field)
    → f ≡ get_or (desc_at set part).fields k no_field → (j : ℕ) → f.item ≡ Struct j
    → (j < reach set part) × (j < length set.structs)
uses_at set well part h k lt f is j e =
    let low : j < reach set part = ltb-true j (reach set part) (rw (← is, e) at (field_clean set well part h k lt).uses) in
    (low, omega (arith, reach_whole set part h))

-- ---- Two whole sets: the devices that one of them doesn't have, and those that are found by their names.

pub whole_is : (old new : Set)
    → first_mismatch old new ≡ or_else (machines_mismatch old new) (or_else (lost_mismatch old new) (first_answer (device_mismatch old new) 0 old.devices))
unfolding first_mismatch
whole_is old new = grind arith

-- ---- devices that a set doesn't have

abbrev lost_at : ℕ → (f g : ℕ → Place) → Option ℕ → Option Mismatch
lost_at rule f g None = None
lost_at rule f g (Some i) = Some (record { rule = rule; in_old = f i; in_new = g i })

lost_is : (set : Set) (rule : ℕ) (f g : ℕ → Place) (k : ℕ) (ds : List Device)
    → first_answer (λ i d. failing_pair ((rule, is_in set d) ∷ []) (f i) (g i)) k ds ≡ lost_at rule f g (position (is_missing set) k ds)
lost_is set rule f g k [] = refl
lost_is set rule f g k (d ∷ ds) = grind (arith, lost_is set rule f g (suc k) ds)

lost_in : (set : Set) (rule : ℕ) (f g : ℕ → Place) (all ds : List Device) → ds ≡ all → (o : Option ℕ) → o ≡ position (is_missing set) 0 ds
    → first_answer (λ i d. failing_pair ((rule, is_in set d) ∷ []) (f i) (g i)) 0 all ≡ lost_at rule f g o
lost_in set rule f g all ds is o e = rw (e, is) (lost_is set rule f g 0 all)

module _ (old new : Set) where
  pub old_lost : (ds : List Device) → ds ≡ old.devices → (o : Option ℕ) → o ≡ position (is_missing new) 0 ds → (i : ℕ) → o ≡ Some i → (a b : Place)
      → a ≡ here (parts.Device i)
      → b ≡ here parts.Set → Some (record { rule = 2; in_old = a; in_new = b }) ≡ lost_mismatch old new
  old_lost ds is o e i some a b in_a in_b =
      rw (in_a, in_b, lost_in new 2 (λ i. here (parts.Device i)) (λ i. here parts.Set) old.devices ds is (Some i) (sym some ∙ e))

  -- no device of the old set is missing
  module _ (ds es : List Device) (is : ds ≡ old.devices) (is' : es ≡ new.devices) (o p : Option ℕ) (e : o ≡ position (is_missing new) 0 ds)
      (e' : p ≡ position (is_missing old) 0 es) (none : o ≡ None) where
    then_new : (q : Option ℕ) → p ≡ q → lost_mismatch old new ≡ lost_at 3 (λ i. here parts.Set) (λ i. here (parts.Device i)) q
    then_new q same =
        rw (lost_in new 2 (λ i. here (parts.Device i)) (λ i. here parts.Set) old.devices ds is None (sym none ∙ e))
        (lost_in old 3 (λ i. here parts.Set) (λ i. here (parts.Device i)) new.devices es is' q (sym same ∙ e'))

    pub new_lost : (i : ℕ) → p ≡ Some i → (a b : Place) → a ≡ here parts.Set → b ≡ here (parts.Device i)
        → Some (record { rule = 3; in_old = a; in_new = b }) ≡ lost_mismatch old new
    new_lost i some a b in_a in_b = rw (in_a, in_b) (sym (then_new (Some i) some))

    pub none_lost : p ≡ None → None ≡ lost_mismatch old new
    none_lost none' = sym (then_new None none')

-- ---- what is found by its name

pub device_in : (devices : List Device) (name : List ℕ) (instance : ℕ) (o : Option ℕ) (k : ℕ) → o ≡ find_device 0 devices name instance → o ≡ Some k
    → k < length devices
device_in devices name instance o k e some = omega (arith, (found_inside _ 0 devices k (sym e ∙ some)).1)

pub sub_in : (subs : List Sub) (name : List ℕ) (o : Option ℕ) (k : ℕ) → o ≡ find_sub 0 subs name → o ≡ Some k → k < length subs
sub_in subs name o k e some = omega (arith, (found_inside _ 0 subs k (sym e ∙ some)).1)

pub device_found : (old new : Set) (i : ℕ) (d : Device) (name : List ℕ) (instance : ℕ) (o : Option ℕ) (k : ℕ) → name ≡ d.desc.name → instance ≡ d.instance
    → o ≡ find_device 0 new.devices name instance → o ≡ Some k
    → compare_device old new i d (Some k) (Some (device_at new k)) ≡ device_mismatch old new i d
device_found old new i d name instance o k is_name is_instance e some =
    let found : find_device 0 new.devices d.desc.name d.instance ≡ Some k = rw (← is_name, ← is_instance, ← e) some in
    rw found (ap (compare_device old new i d (Some k)) (sym (slice_get-get_or new.devices k _ (device_in new.devices name instance o k e some))))

pub sub_found : (old new : Set) (i k j : ℕ) (e : Device) (s : Sub) (name : List ℕ) (o : Option ℕ) (l : ℕ) → name ≡ s.desc.name → o ≡ find_sub 0 e.subs name
    → o ≡ Some l
    → compare_sub old new i k j s (Some l) (Some (sub_at e l)) ≡ compare_subs old new i k e j s
sub_found old new i k j e s name o l is_name is some =
    let found : find_sub 0 e.subs s.desc.name ≡ Some l = rw (← is_name, ← is) some in
    rw found (ap (compare_sub old new i k j s (Some l)) (sym (slice_get-get_or e.subs l _ (sub_in e.subs name o l is some))))
