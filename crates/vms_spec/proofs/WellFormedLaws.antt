-- A set that is well formed has no fault, and is good.
use Rattle.vms_spec.proofs.{Facade.ConstantFits, Facade.ConstantsFit, ListsAndNumbers.either_of, Tables.one_more}
use Rattle.vms_spec.proofs.Facade.{◌≡◌, ℕ, zero, suc, ◌+◌, ◌≤◌, List, [], ◌∷◌, length, Option, Some, None, refl, sym, ap, ◌∙◌}
use Rattle.vms_spec.proofs.Facade.{arith, Bool, true, false, ◌&&◌, struct_fault, device_fault, size_rules, nat_le, slice_get, list_all, bytes_eq}
use Rattle.vms_spec.proofs.Facade.{bytes_eq-Decides, and_parts, Place, or_else, first_answer, is_name, Set, is_one_of, failing, first_fault, here, set_rules}
use Rattle.vms_spec.proofs.Facade.{WellFormed, IsGood, FitsHeads, ◌<◌, ◌++◌, get_or, map, take, ℤ, pos, ◌≤ℤ◌, subst, ◌==◌, nat_lt}
use Rattle.vms_spec.proofs.Facade.{AllByRecursion, flat_map, list_any, not-true, ltb-true, eq-eqb, and_from, or_parts, slice_get_within, get_or_from_slice_get}
use Rattle.vms_spec.proofs.Facade.{Kind, Item, Struct, lowest, highest, InRange, Count, Own, Parent, Part, position, Formula, Cell, Not, And, Or, Field, Desc}
use Rattle.vms_spec.proofs.Facade.{Sub, Device, no_field, no_desc, times, counted, capacity_of, item_cells, field_cells, cells_from, desc_cells, struct_cells}
use Rattle.vms_spec.proofs.Facade.{device_cells, first, FitsCell, find_device, find_sub, is_num, is_one, has_no_test, is_steady, is_steady_in, is_earlier_in}
use Rattle.vms_spec.proofs.Facade.{names_well, nobody, test_names_well, count_names_well, defaults_well, counts_well, int_le, in_range, field_rules}
use Rattle.vms_spec.proofs.Facade.{validation_rules, in_field, fields_fault, validations_fault, desc_fault, struct_rules, sub_fault, sub_rules, device_rules}
use Rattle.vms_spec.proofs.Facade.{is_same_device, IsNumber, IsOne, IsEarlier, NamesEarlier, IsSoundTest, IsSoundCount, IsSoundField, AreSoundFields, IsSound}
use Rattle.vms_spec.proofs.Facade.{DefaultsFit}
use Rattle.vms_spec.specs.Layout.{Cell as OneCell}
use Rattle.vms_spec.specs.declared.Part.TheVariants as parts

-- ---- a set without a fault: each test in the walk finds nothing, and each rule holds

pub or_else_none : {X : Type 0} (x y : Option X) → or_else x y ≡ None → (x ≡ None) × (y ≡ None)
or_else_none x y e = grind arith

-- the element at a number is tested with that number
pub answers_none : {X Y : Type 0} (f : ℕ → X → Option Y) (i : ℕ) (xs : List X) → first_answer f i xs ≡ None → (j : ℕ) (x : X) → slice_get xs j ≡ Some x → f (i + j) x ≡ None
answers_none f i [] e j x h = cc
answers_none f i (y ∷ xs) e zero x h = ap (λ k. f k x) (omega arith) ∙ ap (f i) (sym cc) ∙ (or_else_none (f i y) (first_answer f (suc i) xs) e).0
answers_none f i (y ∷ xs) e (suc j) x h =
    ap (λ k. f k x) (omega arith) ∙ answers_none f (suc i) xs (or_else_none (f i y) (first_answer f (suc i) xs) e).1 j x h

answer_at : {X Y : Type 0} (f : ℕ → X → Option Y) (xs : List X) → first_answer f 0 xs ≡ None → (j : ℕ) (x : X) → slice_get xs j ≡ Some x → f j x ≡ None
answer_at f xs e j x h = let plus : 0 + j ≡ j = omega arith in rw plus at (answers_none f 0 xs e j x h)

-- ---- rules

abbrev pub AllTrue : List Bool → Type 0
AllTrue [] = Unit {0}
AllTrue (b ∷ rules) = (b ≡ true) × AllTrue rules

pub all_true : (r : ℕ) (rules : List Bool) (p : Place) → failing r rules p ≡ None → AllTrue rules
all_true r [] p e = tt
all_true r (true ∷ rules) p e = (refl, all_true (suc r) rules p e)
all_true r (false ∷ rules) p e = cc

-- ---- the set itself

-- a test that holds of all names holds of each of them
pub every_one : (p : List ℕ → Bool) (names : List (List ℕ)) (name : List ℕ) → list_all p names ≡ true → is_one_of names name ≡ true → p name ≡ true
every_one p [] name h e = absurd (cc)
every_one p (n ∷ names) name h e =
    let both = and_parts (p n) (list_all p names) h in
    either_of (bytes_eq n name) (is_one_of names name) e (λ is. cc ((bytes_eq-Decides n name).0 is, both.0)) (every_one p names name both.1)

pub name_short : (most : ℕ) (name : List ℕ) → is_name most name ≡ true → length name ≤ most
name_short most name e = grind arith

-- the rules of the set, and its parts without a fault
pub record SetClean (set : Set) : Type 0 where
  pub own : AllTrue (set_rules set)
  pub structs : first_answer (struct_fault set.structs) 0 set.structs ≡ None
  pub devices : first_answer (device_fault set) 0 set.devices ≡ None
  pub sizes : AllTrue (size_rules set)

module _ (set : Set) (well : WellFormed set) where
  pub set_clean : SetClean set
  unfolding first_fault
  set_clean = search (arith, or_else_none, all_true)

  pub machine_short : (name : List ℕ) → is_one_of set.machines name ≡ true → length name ≤ 64
  machine_short name h = name_short 64 name (every_one (is_name 64) set.machines name set_clean.own.0 h)

  pub few_devices : length set.devices ≤ 64
  few_devices = grind (arith, set_clean)

-- ---- a set that is well formed is good: no fault anywhere

-- the properties of a description without a fault
pub record Clean (k : ℕ) (d : Desc) (rules : List Bool) : Type 0 where
  pub own : AllTrue rules
  pub fields : (i : ℕ) (f : Field) → slice_get d.fields i ≡ Some f → AllTrue (field_rules k d i f)
  pub validations : (i : ℕ) (t : Formula) → slice_get d.validate i ≡ Some t → AllTrue (validation_rules d t)

clean : (k : ℕ) (d : Desc) (part : Part) (rules : List Bool) → desc_fault k d part rules ≡ None → Clean k d rules
clean k d part rules e =
    let a = or_else_none (failing 1 rules (here part)) (or_else (fields_fault k d part) (validations_fault d part)) e in
    let b = or_else_none (fields_fault k d part) (validations_fault d part) a.1 in
    record {
      own = all_true 1 rules (here part) a.0;
      fields = λ i f h. all_true 1 (field_rules k d i f) (in_field part i) (answer_at (λ i f. failing 1 (field_rules k d i f) (in_field part i)) d.fields b.0 i f h);
      validations = λ i t h. all_true 1 (validation_rules d t) (here part) (answer_at (λ i t. failing 1 (validation_rules d t) (here part)) d.validate b.1 i t h);
    }

-- ---- tests and counts name earlier single numbers

pub beyond : {X : Type 0} (xs : List X) (i : ℕ) → i < length xs → slice_get xs i ≡ None → ⊥
beyond [] i lt e = absurd (omega arith)
beyond (y ∷ xs) zero lt e = cc
beyond (y ∷ xs) (suc i) lt e = beyond xs i (omega arith) e

pub get_none : {X : Type 0} (xs : List X) (i : ℕ) (d : X) → slice_get xs i ≡ None → get_or xs i d ≡ d
get_none [] i d e = refl
get_none (y ∷ xs) zero d e = cc
get_none (y ∷ xs) (suc i) d e = get_none xs i d e

is_number : (item : Item) → is_num item ≡ true → IsNumber item
is_number item e = grind arith

is_single : (c : Count) → is_one c ≡ true → IsOne c
is_single c e = grind arith

pub untested : (t : Option Formula) → has_no_test t ≡ true → t ≡ None
untested t e = grind arith

pub earlier : (d : Desc) (k j : ℕ) → j < k → is_steady_in d j ≡ true → IsEarlier d.fields k j
earlier d k j lt e = go (slice_get d.fields j) refl e
  where
    go : (o : Option Field) → slice_get d.fields j ≡ o → is_steady d.minimum o ≡ true → IsEarlier d.fields k j
    go None h e = cc
    go (Some f) h e =
        let a = and_parts (is_num f.item && is_one f.count && has_no_test f.test) (nat_le f.since d.minimum) e in
        let c = and_parts (is_num f.item) (is_one f.count) (and_parts (is_num f.item && is_one f.count) (has_no_test f.test) a.0).0 in
        let g : f ≡ get_or d.fields j no_field = sym (get_or_from_slice_get d.fields j f no_field h) in
        record {
          earlier = lt;
          there = slice_get_within d.fields j f h;
          number = rw g at (is_number f.item c.0);
          one = rw g at (is_single f.count c.1);
        }

names_earlier : (fields : List Field) (k : ℕ) (own : ℕ → Bool) → ((j : ℕ) → own j ≡ true → IsEarlier fields k j) → (t : Formula) → names_well own nobody t ≡ true → NamesEarlier fields k t
names_earlier fields k own h (Cell Own j mask rel value) e = h j e
names_earlier fields k own h (Cell Parent j mask rel value) e = cc
names_earlier fields k own h (Not t) e = names_earlier fields k own h t e
names_earlier fields k own h (And s t) e =
    let p = and_parts (names_well own nobody s) (names_well own nobody t) e in
    (names_earlier fields k own h s p.0, names_earlier fields k own h t p.1)
names_earlier fields k own h (Or s t) e =
    let p = and_parts (names_well own nobody s) (names_well own nobody t) e in
    (names_earlier fields k own h s p.0, names_earlier fields k own h t p.1)
names_earlier fields k own h _ e = tt

earlier_in : (d : Desc) (k j : ℕ) → is_earlier_in d k j ≡ true → IsEarlier d.fields k j
earlier_in d k j e = let p = and_parts (nat_lt j k) (is_steady_in d j) e in earlier d k j (ltb-true j k p.0) p.1

sound_test : (d : Desc) (k : ℕ) (t : Option Formula) → test_names_well d k t ≡ true → IsSoundTest d.fields k t
sound_test d k t e = grind (arith, names_earlier, earlier_in)

sound_count : (d : Desc) (k : ℕ) (c : Count) → count_names_well d k c ≡ true → IsSoundCount d.fields k c
sound_count d k c e = grind (arith, earlier_in)

-- field j of a list is field k of the description
sound_fields : (fields : List Field) (i : ℕ) (fs : List Field) → ((j k : ℕ) (f : Field) → k ≡ i + j → slice_get fs j ≡ Some f → IsSoundField fields k f) → AreSoundFields fields i fs
sound_fields fields i [] h = tt
sound_fields fields i (f ∷ fs) h = (h 0 i f (omega arith) refl, sound_fields fields (suc i) fs (λ j k g at e. h (suc j) k g (omega arith) e))

sound_validations : (fields : List Field) (ts : List Formula) → ((i : ℕ) (t : Formula) → slice_get ts i ≡ Some t → NamesEarlier fields (length fields) t) → AllByRecursion (NamesEarlier fields (length fields)) ts
sound_validations fields [] h = tt
sound_validations fields (t ∷ ts) h = (h 0 t refl, sound_validations fields ts (λ i s e. h (suc i) s e))

sound : (k : ℕ) (d : Desc) (rules : List Bool) → Clean k d rules → IsSound d
sound k d rules c = record {
  fields = sound_fields d.fields 0 d.fields (λ j k f at e. let same : j ≡ k = omega arith in field k f (rw same at e));
  validate = sound_validations d.fields d.validate (λ i t e.
      names_earlier d.fields (length d.fields) (is_steady_in d) (λ j h. earlier d (length d.fields) j (inside j h) h) t (c.validations i t e).1.1.1.0);
} where
  field : (j : ℕ) (f : Field) → slice_get d.fields j ≡ Some f → IsSoundField d.fields j f
  field j f e =
      let p = and_parts (test_names_well d j f.test) (count_names_well d j f.count) (c.fields j f e).1.1.1.0 in
      record { test = sound_test d j f.test p.0; count = sound_count d j f.count p.1 }

  inside : (j : ℕ) → is_steady_in d j ≡ true → j < length d.fields
  inside j h = (earlier d (suc j) j (omega arith) h).there

-- ---- defaults and constants

pub int_below : (z u : ℤ) → int_le z u ≡ true → z ≤ℤ u
int_below z u h = grind arith

pub ranges : (kind : Kind) (z : ℤ) → in_range kind z ≡ true → InRange kind z
ranges kind z e = let p = and_parts (int_le (lowest kind) z) (int_le z (highest kind)) e in (int_below (lowest kind) z p.0, int_below z (highest kind) p.1)

pub within : (caps : List ℕ) (z : ℤ) → counts_well caps z ≡ true → AllByRecursion (λ most. z ≤ℤ pos most) caps
within [] z e = tt
within (m ∷ caps) z e = let p = and_parts (int_le z (pos m)) (counts_well caps z) e in (int_below z (pos m) p.0, within caps z p.1)

constant_fits : (item : Item) (z : ℤ) → defaults_well item z ≡ true → ConstantFits item
constant_fits item z e = grind (arith, ranges)

constants_fit : (fs : List Field) → ((i : ℕ) (f : Field) → slice_get fs i ≡ Some f → ConstantFits f.item) → ConstantsFit fs
constants_fit [] h = tt
constants_fit (f ∷ fs) h = (h 0 f refl, constants_fit fs (λ i g e. h (suc i) g e))

-- the default of each of these cells fits it
abbrev Fit : List OneCell → Type 0
Fit [] = Unit {0}
Fit (c ∷ cells) = FitsCell c c.default × Fit cells

fit_append : (xs ys : List OneCell) → Fit xs → Fit ys → Fit (xs ++ ys)
fit_append [] ys p q = q
fit_append (c ∷ xs) ys p q = (p.0, fit_append xs ys p.1 q)

fit_times : (n : ℕ) (xs : List OneCell) (at' step : ℕ) → Fit xs → Fit (times n (λ _. xs) at' step)
fit_times zero xs at' step p = tt
fit_times (suc n) xs at' step p = fit_append xs (times n (λ _. xs) (at' + step) step) p (fit_times n xs (at' + step) step p)

abbrev AllFit : List (List OneCell) → Type 0
AllFit structs = (j : ℕ) → Fit (get_or structs j [])

fit_item : (structs : List (List OneCell)) → AllFit structs → (item : Item) (caps : List ℕ) (z : ℤ) → defaults_well item z ≡ true → counts_well caps z ≡ true → Fit (item_cells structs item caps z)
fit_item structs all item caps z e f = search (arith, ranges, within)

-- the rule about defaults at each field of a description from field i on
record FieldsFit (fields : List Field) (i : ℕ) (fs : List Field) : Type 0 where
  pub fit : (j k : ℕ) (f : Field) → k ≡ i + j → slice_get fs j ≡ Some f → (defaults_well f.item f.default ≡ true) × (counts_well (counted k fields) f.default ≡ true)

fit_fields : (structs : List (List OneCell)) → AllFit structs → (fields : List Field) (i : ℕ) (fs : List Field) → FieldsFit fields i fs → Fit (cells_from structs fields i fs)
fit_fields structs all fields i [] h = tt
fit_fields structs all fields i (f ∷ fs) h =
    let a = h.fit 0 i f (omega arith) refl in
    let caps = counted i fields in
    fit_append (field_cells structs fields i f) (cells_from structs fields (suc i) fs)
    (fit_times (capacity_of f.count) (item_cells structs f.item caps f.default) 0 0 (fit_item structs all f.item caps f.default a.0 a.1))
    (fit_fields structs all fields (suc i) fs (record { fit = λ j k g at e. h.fit (suc j) k g (omega arith) e }))

fields_fit : (k : ℕ) (d : Desc) (rules : List Bool) → Clean k d rules → FieldsFit d.fields 0 d.fields
fields_fit k d rules c = record {
  fit = λ j i f at e.
      let same : j ≡ i = omega arith in
      and_parts (defaults_well f.item f.default) (counts_well (counted i d.fields) f.default) (c.fields i f (rw same at e)).1.1.1.1.1.0;
}

constants_of : (k : ℕ) (d : Desc) (rules : List Bool) → Clean k d rules → ConstantsFit d.fields
constants_of k d rules c = constants_fit d.fields (λ i f e. constant_fits f.item f.default (and_parts (defaults_well f.item f.default) (counts_well (counted i d.fields) f.default) (c.fields i f e).1.1.1.1.1.0).0)

-- in the form of DefaultsFit
fit_at : (cells : List OneCell) → Fit cells → DefaultsFit cells
fit_at [] p c lt = absurd (omega arith)
fit_at (x ∷ cells) p zero lt = p.0
fit_at (x ∷ cells) p (suc c) lt = fit_at cells p.1 c (omega arith)

-- ---- distinct names

first_of : {X : Type 0} (p : X → Bool) (i : ℕ) (xs : List X) (k : ℕ) (x : X) → slice_get xs k ≡ Some x → p x ≡ true → list_any p (take k xs) ≡ false → position p i xs ≡ Some (i + k)
first_of p i [] k x e t f = cc
first_of p i (y ∷ xs) zero x e t f = grind arith
first_of p i (y ∷ xs) (suc k) x e t f =
    let g = or_parts (p y) (list_any p (take k xs)) f in
    rw (g.0) (first_of p (suc i) xs k x e t g.1 ∙ ap (λ k. Some k) (omega arith))

some_names : (name : List ℕ) (subs : List Sub) → list_any (λ (s : Sub). bytes_eq s.desc.name name) subs ≡ is_one_of (map (λ (s : Sub). s.desc.name) subs) name
some_names name [] = refl
some_names name (s ∷ subs) = rw (some_names name subs)

-- ---- the set

module _ (set : Set) (well : WellFormed set) where
  pub struct_clean : (j : ℕ) (d : Desc) → slice_get set.structs j ≡ Some d → Clean j d (struct_rules set.structs j d)
  struct_clean j d e =
      clean j d (parts.Struct j) (struct_rules set.structs j d) (answer_at (struct_fault set.structs) set.structs (set_clean set well).structs j d e)

  -- the device's own part, and its subsections
  pub device_parts : (k : ℕ) (d : Device) → slice_get set.devices k ≡ Some d
      → Clean (length set.structs) d.desc (device_rules set k d) × (first_answer (sub_fault (length set.structs) k d) 0 d.subs ≡ None)
  device_parts k d e =
      let none = answer_at (device_fault set) set.devices (set_clean set well).devices k d e in
      let p = or_else_none (desc_fault (length set.structs) d.desc (parts.Device k) (device_rules set k d)) (first_answer (sub_fault (length set.structs) k d) 0 d.subs) none in
      (clean (length set.structs) d.desc (parts.Device k) (device_rules set k d) p.0, p.1)

  pub sub_clean : (k j : ℕ) (d : Device) (s : Sub) → slice_get set.devices k ≡ Some d → slice_get d.subs j ≡ Some s → Clean (length set.structs) s.desc (sub_rules d j s)
  sub_clean k j d s e f =
      clean (length set.structs) s.desc (parts.Sub k j) (sub_rules d j s) (answer_at (sub_fault (length set.structs) k d) d.subs (device_parts k d e).1 j s f)

  -- structure m, which may not exist
  struct_fits : (structs : List (List OneCell)) → AllFit structs → (m : ℕ) (o : Option Desc) → slice_get set.structs m ≡ o → Fit (desc_cells structs (get_or set.structs m no_desc))
  struct_fits structs all m None e = rw (get_none set.structs m no_desc e) tt
  struct_fits structs all m (Some d) e =
      rw (get_or_from_slice_get set.structs m d no_desc e) (fit_fields structs all d.fields 0 d.fields (fields_fit m d (struct_rules set.structs m d) (struct_clean m d e)))

  structs_fit : (m : ℕ) → AllFit (first desc_cells set.structs m)
  unfolding first
  structs_fit zero = λ j. tt
  structs_fit (suc m) =
      let all = structs_fit m in
      one_more Fit [] tt (first desc_cells set.structs m) all (desc_cells (first desc_cells set.structs m) (get_or set.structs m no_desc))
      (struct_fits (first desc_cells set.structs m) all m (slice_get set.structs m) refl)

  part_fits : (d : Desc) (rules : List Bool) → Clean (length set.structs) d rules → Fit (desc_cells (struct_cells set) d)
  part_fits d rules c = fit_fields (struct_cells set) (structs_fit (length set.structs)) d.fields 0 d.fields (fields_fit (length set.structs) d rules c)

  subs_fit : (subs : List Sub) → ((j : ℕ) (s : Sub) → slice_get subs j ≡ Some s → Fit (desc_cells (struct_cells set) s.desc)) → Fit (flat_map (λ (s : Sub). desc_cells (struct_cells set) s.desc) subs)
  subs_fit [] h = tt
  subs_fit (s ∷ subs) h =
      fit_append (desc_cells (struct_cells set) s.desc) (flat_map (λ (s : Sub). desc_cells (struct_cells set) s.desc) subs) (h 0 s refl) (subs_fit subs (λ j t e. h (suc j) t e))

  device_fits : (k : ℕ) (d : Device) → slice_get set.devices k ≡ Some d → Fit (device_cells set d)
  device_fits k d e =
      fit_append (desc_cells (struct_cells set) d.desc) (flat_map (λ (s : Sub). desc_cells (struct_cells set) s.desc) d.subs)
      (part_fits d.desc (device_rules set k d) (device_parts k d e).0) (subs_fit d.subs (λ j s f. part_fits s.desc (sub_rules d j s) (sub_clean k j d s e f)))

  pub device_found : (k : ℕ) (d : Device) → slice_get set.devices k ≡ Some d → find_device 0 set.devices d.desc.name d.instance ≡ Some k
  device_found k d e =
      let new = not-true (list_any (is_same_device d.desc.name d.instance) (take k set.devices)) (device_parts k d e).0.own.1.0 in
      first_of (is_same_device d.desc.name d.instance) 0 set.devices k d e
      (and_from (bytes_eq d.desc.name d.desc.name) (d.instance == d.instance) ((bytes_eq-Decides d.desc.name d.desc.name).1 refl) (eq-eqb d.instance d.instance refl)) new
      ∙ ap (λ k. Some k) (omega arith)

  pub sub_found : (k j : ℕ) (d : Device) (s : Sub) → slice_get set.devices k ≡ Some d → slice_get d.subs j ≡ Some s → find_sub 0 d.subs s.desc.name ≡ Some j
  sub_found k j d s e f =
      let name = s.desc.name in
      let new = not-true (is_one_of (map (λ (e : Sub). e.desc.name) (take j d.subs)) name) (sub_clean k j d s e f).own.1.0 in
      let plus : 0 + j ≡ j = omega arith in
      rw plus at (first_of (λ (s : Sub). bytes_eq s.desc.name name) 0 d.subs j s f ((bytes_eq-Decides name name).1 refl) (some_names name (take j d.subs) ∙ new))

  struct_sound : (j : ℕ) → j < length set.structs → (o : Option Desc) → slice_get set.structs j ≡ o → IsSound (get_or set.structs j no_desc)
  struct_sound j lt None e = absurd (beyond set.structs j lt e)
  struct_sound j lt (Some d) e = subst IsSound (sym (get_or_from_slice_get set.structs j d no_desc e)) (sound j d (struct_rules set.structs j d) (struct_clean j d e))

  struct_constants : (j : ℕ) (o : Option Desc) → slice_get set.structs j ≡ o → ConstantsFit (get_or set.structs j no_desc).fields
  struct_constants j None e = rw (get_none set.structs j no_desc e) tt
  struct_constants j (Some d) e = rw (get_or_from_slice_get set.structs j d no_desc e) (constants_of j d (struct_rules set.structs j d) (struct_clean j d e))

  pub well_good : FitsHeads set → IsGood set
  well_good heads = record {
    structs = λ j lt. struct_sound j lt (slice_get set.structs j) refl;
    devices = λ k d e. sound (length set.structs) d.desc (device_rules set k d) (device_parts k d e).0;
    subs = λ k j d s e f. sound (length set.structs) s.desc (sub_rules d j s) (sub_clean k j d s e f);
    distinct = λ k d e. device_found k d e;
    distinct_subs = λ k j d s e f. sub_found k j d s e f;
    defaults = λ k d e. fit_at (device_cells set d) (device_fits k d e);
    struct_constants = λ j. struct_constants j (slice_get set.structs j) refl;
    constants = λ k d e. constants_of (length set.structs) d.desc (device_rules set k d) (device_parts k d e).0;
    sub_constants = λ k j d s e f. constants_of (length set.structs) s.desc (sub_rules d j s) (sub_clean k j d s e f);
    instance = heads.instance;
    sub_version = heads.sub_version;
  }
