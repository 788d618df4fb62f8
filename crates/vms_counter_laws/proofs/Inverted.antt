-- Which rule an answer of the comparison is of, and what that says of the two sets.
use Rattle.vms_counter_laws.proofs.Facade
use Facade.{◌≡◌, ◌⊎◌, inl, inr, ℕ, zero, suc, ◌+◌, ◌<◌, Bool, true, false, List, [], ◌∷◌, length, get_or, if◌then◌else◌}
use Facade.{Option, Some, None, refl, arith, slice_get, list_all, Item, Struct, Part, Place, or_else, first_answer, Cell, first, no_desc, Desc, Sub, Device}
use Facade.{Set, is_one_of, index, is_version_of, here, in_field, Mismatch, first_mismatch, comparing, compare_device, compare_sub, is_in, Entry, Comparer}
use Facade.{no_comparer, comparer_of, comparers, compare_desc, compare_fields, compare_validations, failing_pair, is_covered, pair_rules, pair_structs, present}
use Facade.{same_rest, uncovered_rules, one_more, compared, ◌++◌, sym, ℤ, Kind, AllByRecursion, Equal, InRange, code, same_number, Formula, Field}
use Facade.{field_cells, value_code, ConstantFits, ConstantsFit, is_same, presence, entry_of, present_from, same_constant, same_item, RestAt, at_first, one_on}
use Facade.{kinds_same, Two, Clash, Clashes, Differ}
use Rattle.vms_spec.specs.declared.Part.TheVariants as parts

-- ---- answers

pub else_some : {X : Type 0} (x y : Option X) (m : X) → or_else x y ≡ Some m → (x ≡ Some m) ⊎ ((x ≡ None) × (y ≡ Some m))
else_some x y m h = grind arith

-- the first answer of a list, and none before it
pub record FirstSome {X Y : Type 0} (f : ℕ → X → Option Y) (i : ℕ) (xs : List X) (m : Y) : Type 0 where
  pub number : ℕ
  pub item : X
  pub stands : slice_get xs number ≡ Some item
  pub answers : f (i + number) item ≡ Some m
  pub before : (k : ℕ) (x : X) → k < number → slice_get xs k ≡ Some x → f (i + k) x ≡ None

first_before : {X Y : Type 0} (f : ℕ → X → Option Y) (i : ℕ) (x : X) (xs : List X) (n : ℕ) → f i x ≡ None
    → ((k : ℕ) (y : X) → suc k < n → slice_get xs k ≡ Some y → f (suc i + k) y ≡ None)
    → (k : ℕ) (y : X) → k < n → slice_get (x ∷ xs) k ≡ Some y → f (i + k) y ≡ None
first_before f i x xs n none more zero y lt e = grind arith
first_before f i x xs n none more (suc k) y lt e = let one_more : suc i + k ≡ i + suc k = omega arith in rw one_more at (more k y lt e)

pub first_some : {X Y : Type 0} (f : ℕ → X → Option Y) (i : ℕ) (xs : List X) (m : Y) → first_answer f i xs ≡ Some m → FirstSome f i xs m
first_some f i [] m h = absurd (cc)
first_some f i (x ∷ xs) m h =
    let zero_more : i + 0 ≡ i = omega arith in
    elim (else_some _ _ m h) [
      | inl e ↦ record { number = 0; item = x; stands = refl; answers = rw zero_more e; before = λ k y lt e. absurd (omega arith) }
      | inr e ↦
          let r = first_some f (suc i) xs m e.1 in
          let one_more : suc i + r.number ≡ i + suc r.number = omega arith in
          record {
            number = suc r.number;
            item = r.item;
            stands = r.stands;
            answers = rw one_more at r.answers;
            before = first_before f i x xs _ e.0 (λ k y lt same. r.before k y (omega arith) same);
          }
    ]

-- one rule, at one pair of places
pub one_rule : (r : ℕ) (b : Bool) (p q : Place) (m : Mismatch) → failing_pair ((r, b) ∷ []) p q ≡ Some m → (b ≡ false) × (m.rule ≡ r) × (m.in_old ≡ p)
one_rule r b p q m h = grind arith

-- ---- parts

abbrev pub IsStruct : Part → Type 0
IsStruct (parts.Struct i) = Unit {0}
IsStruct _ = ⊥

-- an answer of fields and validations of a part: of a rule above 4, and there or in a structure
pub record IsWithin (part : Part) (m : Mismatch) : Type 0 where
  pub rule : 4 < m.rule
  pub place : (m.in_old.part ≡ part) ⊎ IsStruct m.in_old.part

abbrev pub StructsWithin : List Comparer → Type 0
StructsWithin structs = (i j : ℕ) (m : Mismatch) → get_or structs j no_comparer i ≡ Some m → (4 < m.rule) × IsStruct m.in_old.part

within_of : (part : Part) (n m : Mismatch) → n ≡ m → IsWithin part n → IsWithin part m
within_of part n m e h = rw e at h

abbrev AreLater : List (ℕ × Bool) → Type 0
AreLater [] = Unit {0}
AreLater (rule ∷ rules) = (4 < rule.0) × AreLater rules

failing_within : (rules : List (ℕ × Bool)) (p q : Place) (m : Mismatch) → AreLater rules → failing_pair rules p q ≡ Some m → IsWithin p.part m
failing_within [] p q m h e = absurd (cc)
failing_within ((r, true) ∷ rules) p q m h e = failing_within rules p q m h.1 e
failing_within ((r, false) ∷ rules) p q m h e = search (arith, within_of)

module _ (structs : List Comparer) (within : StructsWithin structs) (a b : Desc) (v w : ℕ) (part part' : Part) (o n : ℕ → Option ℕ) where
  pair_within : (e f : Entry) (m : Mismatch)
      → failing_pair (pair_rules structs a b v w part part' o n e f) (in_field part e.index) (in_field part' f.index) ≡ Some m → IsWithin part m
  pair_within e f m h =
      failing_within _ _ _ m (later (is_covered e.field.item e.field.count f.field.item)) h where
        later : (c : Bool) → AreLater (if c then (9, same_rest o n e.rest f.rest) ∷ [] else uncovered_rules structs a b v w part part' o n e f)
        later true = (omega arith, tt)
        later false = (omega arith, (omega arith, (omega arith, (omega arith, (omega arith, (omega arith, tt))))))

  structs_within : (i j : Item) (m : Mismatch) → pair_structs structs a b v w part part' o n i j ≡ Some m → (4 < m.rule) × IsStruct m.in_old.part
  structs_within i j m h = grind arith

  pub fields_within : (es fs : List Entry) (m : Mismatch) → compare_fields structs a b v w part part' o n es fs ≡ Some m → IsWithin part m
  fields_within [] [] m h = absurd (cc)
  fields_within (e ∷ es) [] m h =
      within_of part (record { rule = 5; in_old = in_field part e.index; in_new = here part' }) m (cc) (record { rule = omega arith; place = inl refl })
  fields_within [] (f ∷ fs) m h =
      within_of part (record { rule = 6; in_old = here part; in_new = in_field part' f.index }) m (cc) (record { rule = omega arith; place = inl refl })
  fields_within (e ∷ es) (f ∷ fs) m h = elim (else_some _ _ m h) [
    | inl k ↦ pair_within e f m k
    | inr k ↦ elim (else_some _ _ m k.1) [
      | inl s ↦ let r = structs_within e.field.item f.field.item m s in record { rule = r.0; place = inr r.1 }
      | inr s ↦ fields_within es fs m s.1
    ]
  ]

  validations_within : (m : Mismatch) → compare_validations structs a b v w part part' o n ≡ Some m → IsWithin part m
  validations_within m h = grind (arith, failing_within)

pub desc_within : (structs : List Comparer) (x y : List (List Cell)) (a b : Desc) (v w : ℕ) (part part' : Part) (m : Mismatch) → StructsWithin structs
    → compare_desc structs x y a b v w part part' ≡ Some m → IsWithin part m
desc_within structs x y a b v w part part' m within h = grind (arith, else_some, fields_within, validations_within)

-- the comparers of the structures answer within them
pub tables_within : (x y : List (List Cell)) (olds news : List Desc) (k : ℕ) → StructsWithin (comparers x y olds news k)
unfolding first
tables_within x y olds news zero i j m h = absurd (cc)
tables_within x y olds news (suc k) i j m h =
    let earlier = comparers x y olds news k in
    let b = get_or news k no_desc in
    let within : StructsWithin earlier = tables_within x y olds news k in
    one_more (λ (c : Comparer). (i : ℕ) (m : Mismatch) → c i ≡ Some m → (4 < m.rule) × IsStruct m.in_old.part) no_comparer (λ i m h. absurd (cc)) earlier
    (λ j i m h. within i j m h) (comparer_of earlier x y olds (length earlier) b)
    (λ i m h.
    (grind (arith, desc_within _ x y (get_or olds i no_desc) b _ _ _ _ m within h))) j i m h

-- ---- subsections and devices

abbrev pub IsDevice : Part → Type 0
IsDevice (parts.Device i) = Unit {0}
IsDevice _ = ⊥

pub struct_no_device : (p : Part) → IsStruct p → IsDevice p → ⊥
struct_no_device p s d = grind arith

module _ (old new : Set) where
  pub part_within : (a b : Desc) (v : ℕ) (part part' : Part) (m : Mismatch) → comparing old new a b v part part' ≡ Some m → IsWithin part m
  part_within a b v part part' m h = desc_within _ _ _ a b v v part part' m (tables_within _ _ _ _ _) h

  sub_within : (i k j : ℕ) (s : Sub) (l : Option ℕ) (t : Option Sub) (m : Mismatch) → compare_sub old new i k j s l t ≡ Some m
      → (4 < m.rule) × (IsDevice m.in_old.part → ⊥)
  sub_within i k j s (Some l) (Some t) m h = grind (arith, else_some, failing_within, part_within)
  sub_within i k j s _ _ m h = grind (arith, within_of)

  -- of two devices: the version, the device's own fields and validations, or a subsection
  pub data OfDevice (i k : ℕ) (d e : Device) (m : Mismatch) : Type 0 where
    Version : m.rule ≡ 4 → is_version_of e.desc d.desc.version ≡ false → OfDevice i k d e m
    Own : 4 < m.rule → comparing old new d.desc e.desc d.desc.version (parts.Device i) (parts.Device k) ≡ Some m → OfDevice i k d e m
    Below : 4 < m.rule → (IsDevice m.in_old.part → ⊥) → OfDevice i k d e m

  pub of_device : (i k : ℕ) (d e : Device) (m : Mismatch) → compare_device old new i d (Some k) (Some e) ≡ Some m → OfDevice i k d e m
  of_device i k d e m h =
      elim (else_some _ _ m h) [
        | inl r ↦ let o = one_rule 4 (is_version_of e.desc d.desc.version) (here (parts.Device i)) (here (parts.Device k)) m r in Version o.1 o.0
        | inr r ↦ elim (else_some _ _ m r.1) [
          | inl c ↦ Own (part_within d.desc e.desc _ _ _ m c).rule c
          | inr c ↦
              let f = first_some _ 0 d.subs m c.1 in
              let s = sub_within i k _ f.item _ _ m f.answers in
              Below s.0 s.1
        ]
      ]

  compared_early : (i : ℕ) (d : Device) (o : Option ℕ) (p : Option Device) (m : Mismatch) → compare_device old new i d o p ≡ Some m → 3 < m.rule
  compared_early i d o p m h = grind (arith, of_device)

  -- ---- which rule is the first

  -- a device that is in both sets
  pub record DeviceFails (m : Mismatch) : Type 0 where
    pub all_in : first_answer (λ i d. failing_pair ((2, is_in new d) ∷ []) (here (parts.Device i)) (here parts.Set)) 0 old.devices ≡ None
    pub answers : FirstSome (λ i d. compared old new i d) 0 old.devices m

  -- which rule it is, and where
  which_fails : (m : Mismatch) → first_mismatch old new ≡ Some m
      → ((list_all (is_one_of new.machines) old.machines ≡ false) × (m.rule ≡ 1)) ⊎ (((1 < m.rule) × (m.rule < 4)) ⊎ DeviceFails m)
  unfolding first_mismatch
  which_fails m h =
      let old_in = λ (i : ℕ) (d : Device). failing_pair ((2, is_in new d) ∷ []) (here (parts.Device i)) (here parts.Set) in
      let new_in = λ (i : ℕ) (d : Device). failing_pair ((3, is_in old d) ∷ []) (here parts.Set) (here (parts.Device i)) in
      elim (else_some _ _ m h) [
        | inl r ↦ let one = one_rule 1 (list_all (is_one_of new.machines) old.machines) (here parts.Set) (here parts.Set) m r in inl (one.0, one.1)
        | inr r ↦ elim (else_some (first_answer old_in 0 old.devices) _ m r.1) [
          | inl s ↦ let f = first_some old_in 0 _ m s in let two = (one_rule 2 (is_in new f.item) _ _ m f.answers).1 in inr (inl (omega arith, omega arith))
          | inr s ↦ elim (else_some (first_answer new_in 0 new.devices) _ m s.1) [
            | inl t ↦ let f = first_some new_in 0 _ m t in let three = (one_rule 3 (is_in old f.item) _ _ m f.answers).1 in inr (inl (omega arith, omega arith))
            | inr t ↦ inr (inr (record { all_in = s.0; answers = first_some (λ i d. compared old new i d) 0 _ m t.1 }))
          ]
        ]
      ]

  pub machine_fails : (m : Mismatch) → first_mismatch old new ≡ Some m → m.rule ≡ 1 → list_all (is_one_of new.machines) old.machines ≡ false
  machine_fails m h one = elim (which_fails m h) [
    | inl r ↦ r.0
    | inr (inl between) ↦ absurd (omega arith)
    | inr (inr d) ↦ absurd (omega (arith, compared_early _ d.answers.item _ _ m d.answers.answers))
  ]

  pub device_fails : (m : Mismatch) → first_mismatch old new ≡ Some m → 3 < m.rule → DeviceFails m
  device_fails m h late = elim (which_fails m h) [
    | inl r ↦ absurd (omega arith)
    | inr (inl between) ↦ absurd (omega arith)
    | inr (inr d) ↦ d
  ]

-- ---- where the rule of constants is the first that fails, the fields before agree and two constants have other bytes

-- ---- what is known of present fields

abbrev pub AreFields : List Field → ℕ → List Entry → Type 0
AreFields all v [] = Unit {0}
AreFields all v (e ∷ es) = ((slice_get all e.index ≡ Some e.field) × (presence v e.field.test e.field.since ≡ Some e.rest)) × AreFields all v es

entry_field : (all : List Field) (v i p : ℕ) (f : Field) (pr : Option (Option Formula)) (es : List Entry) → presence v f.test f.since ≡ pr
    → slice_get all i ≡ Some f → AreFields all v es → AreFields all v (entry_of i p f pr ++ es)
entry_field all v i p f pr es h e more = grind arith

pub present_fields : (y : List (List Cell)) (all : List Field) (v i p : ℕ) (fs : List Field) → RestAt all i fs → AreFields all v (present_from y all v i p fs)
present_fields y all v i p [] h = tt
present_fields y all v i p (f ∷ fs) h =
    entry_field all v i p f _ _ refl (at_first (slice_get all) i h)
    (present_fields y all v (suc i) (p + length (field_cells y all i f)) fs (one_on (slice_get all) i h))

-- ---- constants

pub constant_fits : (fs : List Field) (j : ℕ) (f : Field) → ConstantsFit fs → slice_get fs j ≡ Some f → ConstantFits f.item
constant_fits [] j f h e = absurd (cc)
constant_fits (g ∷ fs) zero f h e = let same : g ≡ f = cc in rw same at h.0
constant_fits (g ∷ fs) (suc j) f h e = constant_fits fs j f h.1 e

other_code : (k : Kind) (z u : ℤ) → InRange k z → InRange k u → same_number z u ≡ false → code k z ≡ code k u → ⊥
other_code k z u fits fits' h e =
    let same : z ≡ u = cc (value_code k z fits, value_code k u fits') in absurd (cc (is_same z z refl))

differ : (i j : Item) → ConstantFits i → ConstantFits j → same_item i j ≡ true → same_constant i j ≡ false → Differ i j
differ (Equal k z) (Equal l u) fits fits' same h =
    let kinds : l ≡ k = sym (kinds_same k l same) in
    record { kind = k; value = z; other = u; item = refl; item' = rw kinds; differ = other_code k z u fits (rw kinds at fits') h }
differ _ _ fits fits' same h = absurd (cc)

-- ---- rules in order

-- the last rule fails, if it is none of the others
last_fails : (rules : List (ℕ × Bool)) (r : ℕ) (b : Bool) (p q : Place) (m : Mismatch) → AllByRecursion (λ x. m.rule ≡ x.0 → ⊥) rules
    → failing_pair (rules ++ (r, b) ∷ []) p q ≡ Some m → AllByRecursion (λ x. x.1 ≡ true) rules × (b ≡ false) × (m.in_old ≡ p)
last_fails [] r b p q m other h = let one = one_rule r b p q m h in (tt, one.0, one.2)
last_fails ((k, true) ∷ rules) r b p q m other h = let more = last_fails rules r b p q m other.1 h in ((refl, more.0), more.1, more.2)
last_fails ((k, false) ∷ rules) r b p q m other h = let same : record { rule = k; in_old = p; in_new = q } ≡ m = cc in absurd (other.0 (rw (← same)))

no_left : (o n : ℕ → Option ℕ) (r s : Option Formula) → r ≡ None → same_rest o n r s ≡ true → s ≡ None
no_left o n r s e h = grind arith

module _ (two : Two) (m : Mismatch) (twelve : m.rule ≡ 12) where
  open two use {ks, a, b, v, w, part, part', o, n}

  other : (r : ℕ) → r < 12 → m.rule ≡ r → ⊥
  other r lt e = omega arith

  record Constants (e f : Entry) : Type 0 where
    item : same_item e.field.item f.field.item ≡ true
    rest : same_rest o n e.rest f.rest ≡ true
    constant : same_constant e.field.item f.field.item ≡ false
    place : m.in_old ≡ in_field part e.index

  by_cover : (c : Bool) (e f : Entry)
      → failing_pair (if c then (9, same_rest o n e.rest f.rest) ∷ [] else uncovered_rules ks a b v w part part' o n e f) (in_field part e.index)
      (in_field part' f.index) ≡ Some m → Constants e f
  by_cover true e f h = absurd (other 9 (omega arith) (one_rule 9 _ _ _ m h).1)
  by_cover false e f h =
      let r =
      last_fails ((7, _) ∷ (8, _) ∷ (9, _) ∷ (10, _) ∷ (11, _) ∷ []) 12 _ (in_field part e.index) (in_field part' f.index) m
      (other 7 (omega arith), (other 8 (omega arith), (other 9 (omega arith), (other 10 (omega arith), (other 11 (omega arith), tt))))) h in
      record { item = r.0.1.0; rest = r.0.1.1.0; constant = r.1; place = r.2 }

  structs_answer : (within : StructsWithin ks) (i j : Item) → pair_structs ks a b v w part part' o n i j ≡ Some m → IsStruct m.in_old.part
  structs_answer within i j h = search arith

  module _ (within : StructsWithin ks) (not_struct : IsStruct m.in_old.part → ⊥) (fits : ConstantsFit a.fields) (fits' : ConstantsFit b.fields)
      (plain : (j : ℕ) (f : Field) → m.in_old.field ≡ Some j → slice_get a.fields j ≡ Some f → presence v f.test f.since ≡ Some None) where
    clash_here : (e f : Entry) → slice_get a.fields e.index ≡ Some e.field → presence v e.field.test e.field.since ≡ Some e.rest
        → slice_get b.fields f.index ≡ Some f.field → Constants e f → Clash e f
    clash_here e f is there is' c =
        let fit' = constant_fits _ _ _ fits' is' in
        let rest : e.rest ≡ None = cc (there, plain e.index e.field (rw c.place) is) in
        record { constants = differ _ _ (constant_fits _ _ _ fits is) fit' c.item c.constant; rest = rest; rest' = no_left o n e.rest f.rest rest c.rest }

    pub clashes : (es fs : List Entry) → AreFields a.fields v es → AreFields b.fields w fs → compare_fields ks a b v w part part' o n es fs ≡ Some m
        → Clashes two es fs
    clashes [] [] known known' h = absurd (cc)
    clashes (e ∷ es) [] known known' h =
        let same : record { rule = 5; in_old = in_field part e.index; in_new = here part' } ≡ m = cc in absurd (other 5 (omega arith) (rw (← same)))
    clashes [] (f ∷ fs) known known' h =
        let same : record { rule = 6; in_old = here part; in_new = in_field part' f.index } ≡ m = cc in absurd (other 6 (omega arith) (rw (← same)))
    clashes (e ∷ es) (f ∷ fs) known known' h =
        elim (else_some _ _ m h) [
          | inl k ↦ inl (clash_here e f known.0.0 known.0.1 known'.0.0 (by_cover (is_covered e.field.item e.field.count f.field.item) e f k))
          | inr k ↦ elim (else_some (pair_structs ks a b v w part part' o n e.field.item f.field.item) _ m k.1) [
            | inl s ↦ absurd (not_struct (structs_answer within e.field.item f.field.item s))
            | inr s ↦ inr (record { rules = k.0; structs = s.0 }, clashes es fs known.1 known'.1 s.1)
          ]
        ]
