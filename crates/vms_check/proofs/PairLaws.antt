-- Two fields of the same position, tests over lists, and the positions of present fields.
use Rattle.vms_check.proofs.Facade
use Facade.{◌≡◌, ℕ, suc, ◌+◌, List, ◌∷◌, Bool, true, false, Option, Some, None, refl, arith, [], slice_get, list_all, Place, first_answer}
use Facade.{both_none, failing_pair, in_new, each, ◌≤◌, ◌==◌, if◌then◌else◌, and_parts, AllByRecursion, and_from, cases_Bool, eq-eqb, inl, inr}
use Facade.{nat_tests, leb-true, Formula, Field, Desc, is_nothing, same_rest, same_reduced, Comparer, Entry, absent_hold, has_room, holds_as_much, is_absent}
use Facade.{is_covered, pair_rules, uncovered_rules, Reduced, left_of, presence, tree_of, field_reduced, Struct, Count, Counted, Part, AreAlike, ArePaired}
use Facade.{in_old, IsFirst, Present, Side, zero, ◌<◌, ◌++◌, length, get_or, take, map, replicate, sym, ap, ◌∙◌, drop, add-one, not, ne_eqb}
use Facade.{slice_get-get_or, slice_get-map, slice_get_past, length-map, map-append, take-map, take_more, drop_more, no_field, field_of, get_map_at, entry_of}
use Facade.{position_from, fields_from, count_present, position_in, desc_on}
use Rattle.vms_parts.specs.declared.types.Field.{Field as CodeField}

-- ---- tests over lists and numbered rules, and what they say of each place

-- no rule fails exactly where each holds
pub passes : (rules : List (ℕ × Bool)) (p q : Place) → failing_pair rules p q ≡ None → AllByRecursion (λ r. r.1 ≡ true) rules
passes [] p q e = tt
passes ((rule, true) ∷ rules) p q e = (refl, passes rules p q e)
passes ((rule, false) ∷ rules) p q e = cc

pub pass : (rules : List (ℕ × Bool)) (p q : Place) → AllByRecursion (λ r. r.1 ≡ true) rules → failing_pair rules p q ≡ None
pass [] p q h = refl
pass ((rule, true) ∷ rules) p q h = pass rules p q h.1
pass ((rule, false) ∷ rules) p q h = cc (h.0)

pub at_every : {X : Type 0} (p : X → Bool) (xs : List X) → ((i : ℕ) (x : X) → slice_get xs i ≡ Some x → p x ≡ true) → list_all p xs ≡ true
at_every p [] h = refl
at_every p (x ∷ xs) h = rw (h 0 x refl) (at_every p xs (λ i y e. h (suc i) y e))

pub none_answers : {X Y : Type 0} (f : ℕ → X → Option Y) (i : ℕ) (xs : List X) → ((j : ℕ) (x : X) → slice_get xs j ≡ Some x → f (i + j) x ≡ None)
    → first_answer f i xs ≡ None
none_answers f i [] h = refl
none_answers f i (x ∷ xs) h =
    let plus : i ≡ i + 0 = omega arith in
    both_none (f i x) (first_answer f (suc i) xs) (rw (← plus) at (h 0 x refl))
    (none_answers f (suc i) xs (λ j y e. let more : suc i + j ≡ i + suc j = omega arith in rw more (h (suc j) y e)))

pub same_at : {X : Type 0} (xs : List X) (i : ℕ) (x y : X) → slice_get xs i ≡ Some x → slice_get xs i ≡ Some y → x ≡ y
same_at xs i x y e f = cc

-- ---- two fields of the same position: The rests of the tests of two present fields.

pub presence_is : (v : ℕ) (test : Option Formula) (since : ℕ) → presence v test since ≡ left_of (field_reduced v test since)
presence_is v test since = grind arith

-- where both are there
pub left_same : (o n : ℕ → Option ℕ) (r q : Reduced) → is_nothing (left_of r) ≡ false → is_nothing (left_of q) ≡ false
    → same_reduced o n r q ≡ same_rest o n (tree_of r) (tree_of q)
left_same o n r q x y = grind arith

-- ---- Two fields of the same position: no rule fails exactly where they are paired as the rules say. Arrays that aren't there.

room_there : (w i n : ℕ) (g : Field) (most : ℕ) → is_absent w g ≡ true → has_room w i n g (Counted i most) ≡ true → n ≤ most
room_there w i n g most absent e = leb-true n most (rw (eq-eqb i i refl, absent) at e)

pub room_needed : (w i n : ℕ) (g : Field) (c : Count) → ((most : ℕ) → is_absent w g ≡ true → c ≡ Counted i most → n ≤ most) → has_room w i n g c ≡ true
room_needed w i n g c h = grind arith

-- ---- one pair

module _ (same : ℕ → ℕ → Bool) (structs : List Comparer) (a b : Desc) (v w : ℕ) (in_a in_b : Part) where
  abbrev rules : Entry → Entry → List (ℕ × Bool)
  rules e f = pair_rules structs a b v w in_a in_b (in_old same a b v w) (in_new same a b v w) e f

  abbrev uncovered : Entry → Entry → List (ℕ × Bool)
  uncovered e f = uncovered_rules structs a b v w in_a in_b (in_old same a b v w) (in_new same a b v w) e f

  alike_so : (e f : Entry) (p q : Place) → failing_pair (uncovered e f) p q ≡ None
      → ((i j : ℕ) → e.field.item ≡ Struct i → f.field.item ≡ Struct j → same i j ≡ true) → AreAlike same a b v w e f
  alike_so e f p q none structs_same =
      let r = passes (uncovered e f) p q none in
      let room = and_parts (holds_as_much e.field.count f.field.count) (absent_hold w f.index _ b.fields) r.1.1.1.1.0 in
      record {
        counts = r.0;
        kinds = r.1.0;
        tests = r.1.1.0;
        names = r.1.1.1.0;
        capacities = room.0;
        room = λ k g most there absent is.
            room_there w f.index _ g most absent (rw is at (each (λ (g : Field). has_room w f.index _ g g.count) b.fields k g room.1 there));
        constants = r.1.1.1.1.1.0;
        structs = structs_same;
      }

  so_alike : (e f : Entry) (p q : Place) → AreAlike same a b v w e f → failing_pair (uncovered e f) p q ≡ None
  so_alike e f p q h = grind (arith, at_every, room_needed, pass, and_from)

  pub paired_so : (e f : Entry) (p q : Place) → failing_pair (rules e f) p q ≡ None
      → ((i j : ℕ) → e.field.item ≡ Struct i → f.field.item ≡ Struct j → same i j ≡ true) → ArePaired same a b v w e f
  paired_so e f p q none structs_same =
      record { covered = λ c. (passes ((9, _) ∷ []) p q (rw c at none)).0; alike = λ c. alike_so e f p q (rw c at none) structs_same }

  pub so_paired : (e f : Entry) (p q : Place) → ArePaired same a b v w e f → failing_pair (rules e f) p q ≡ None
  so_paired e f p q h = elim (cases_Bool (is_covered e.field.item e.field.count f.field.item)) [
    | inl c ↦ rw c (pass ((9, _) ∷ []) p q (h.covered c, tt))
    | inr c ↦ rw c (so_alike e f p q (h.alike c))
  ]

-- ---- the position of a field among the present ones is how many are present before it

next_is : (v p i : ℕ) (f : Field) (fs : List Field) (k : ℕ) → position_from p (fields_from v i (f ∷ fs)) k
    ≡ (if is_absent v f then position_from p (fields_from v (suc i) fs) k else (if i == k then Some p else position_from (suc p) (fields_from v (suc i) fs) k))
next_is v p i f fs k = grind arith

none_before : (v p i : ℕ) (fs : List Field) (k : ℕ) → k < i → position_from p (fields_from v i fs) k ≡ None
none_before v p i [] k lt = refl
none_before v p i (f ∷ fs) k lt = grind (arith, nat_tests, next_is, none_before v p (suc i) fs k, none_before v (suc p) (suc i) fs k)

-- n, if it is a field that is there
abbrev pub spot : ℕ → Option Field → ℕ → Option ℕ
spot v None n = None
spot v (Some f) n = if is_absent v f then None else Some n

spot_from : (v p i : ℕ) (fs : List Field) (k j : ℕ) → j ≡ i + k → position_from p (fields_from v i fs) j ≡ spot v (slice_get fs k) (count_present v (take k fs) + p)
spot_from v p i [] k j e = refl
spot_from v p i (f ∷ fs) zero j e = grind (arith, next_is, none_before)
spot_from v p i (f ∷ fs) (suc k) j e =
    rw (next_is v p i f fs j, ne_eqb i j (λ h. omega (arith, h)))
    (elim (is_absent v f) as (λ b. (if b then position_from p (fields_from v (suc i) fs) j else position_from (suc p) (fields_from v (suc i) fs) j)
    ≡ spot v (slice_get fs k) (((if b then 0 else 1) + (count_present v (take k fs))) + p)) [
      | true ↦ spot_from v p (suc i) fs k j (omega arith) ∙ ap (spot v (slice_get fs k)) (omega arith)
      | false ↦ spot_from v (suc p) (suc i) fs k j (omega arith) ∙ ap (spot v (slice_get fs k)) (omega arith)
    ])

pub spot_is : (v : ℕ) (fs : List Field) (k : ℕ) → position_in v fs k ≡ spot v (slice_get fs k) (count_present v (take k fs))
spot_is v fs k = spot_from v 0 0 fs k k (omega arith) ∙ ap (spot v (slice_get fs k)) (omega arith)

-- ---- as the code has it

-- a table of no entries
pub none_at : {A : Type 0} (n k : ℕ) → get_or (replicate {A = Option A} n None) k None ≡ None
none_at zero k = refl
none_at (suc n) zero = refl
none_at (suc n) (suc k) = none_at n k

position_at : (v : ℕ) (fields : List CodeField) (k : ℕ) (f : CodeField) → k < length fields → f ≡ get_or fields k f
    → position_in v (map field_of fields) k ≡ (if is_absent v (field_of f) then None else Some (count_present v (map field_of (take k fields))))
position_at v fields k f lt is = spot_is v (map field_of fields) k ∙ rw (slice_get-map field_of fields k, slice_get-get_or fields k f lt, ← is, take-map)

count-append : (v : ℕ) (fs gs : List Field) → count_present v (fs ++ gs) ≡ count_present v fs + count_present v gs
count-append v [] gs = omega arith
count-append v (f ∷ fs) gs = omega (arith, count-append v fs gs)

-- a field that is there or isn't
module _ (v : ℕ) (fields : List CodeField) (k : ℕ) (f : CodeField) (is_there : Bool) (count : ℕ) (lt : k < length fields) (is : f ≡ get_or fields k f)
    (e : is_there ≡ not (is_absent v (field_of f))) (n : count ≡ count_present v (map field_of (take k fields))) where
  -- its entry
  pub entry_is : (if is_there then Some count else None) ≡ position_in v (map field_of fields) k
  entry_is = rw (position_at v fields k f lt is) (grind arith)

  -- how many are there with it
  pub counted_is : (if is_there then suc count else count) ≡ count_present v (map field_of (take (k + 1) fields))
  counted_is = rw (take_more fields k f lt, map-append field_of (take k fields) (get_or fields k f ∷ []), count-append, ← is) (grind arith)

pub counted_small : (b : Bool) (count n : ℕ) → count ≤ n → (if b then suc count else count) ≤ n + 1
counted_small b count n h = grind arith

pub position_beyond : (v : ℕ) (fields : List CodeField) (k : ℕ) → length fields ≤ k → None ≡ position_in v (map field_of fields) k
position_beyond v fields k le = sym (spot_is v (map field_of fields) k ∙ rw (slice_get-map field_of fields k, slice_get_past fields k le))

pub flipped : (b c : Bool) → not b ≡ c → b ≡ not c
flipped b c e = grind arith

-- ---- The next field that is there.

abbrev found : ℕ → ℕ → Field → Entry
found v i f = record { index = i; place = 0; field = f; rest = tree_of (field_reduced v f.test f.since) }

there : (i : ℕ) (f : Field) (r : Reduced) → is_nothing (left_of r) ≡ false
    → entry_of i 0 f (left_of r) ≡ record { index = i; place = 0; field = f; rest = tree_of r } ∷ []
there i f r e = grind arith

absent : (i : ℕ) (f : Field) (o : Option (Option Formula)) → is_nothing o ≡ true → entry_of i 0 f o ≡ []
absent i f o e = grind arith

module _ (v : ℕ) (fields : List Field) (i : ℕ) (lt : i < length fields) where
  here : fields_from v i (drop i fields)
      ≡ entry_of i 0 (get_or fields i no_field) (presence v (get_or fields i no_field).test (get_or fields i no_field).since) ++ fields_from v (i + 1)
      (drop (i + 1) fields)
  here = rw (drop_more fields i no_field lt, add-one i)

  pub skips : is_absent v (get_or fields i no_field) ≡ true → fields_from v (i + 1) (drop (i + 1) fields) ≡ fields_from v i (drop i fields)
  skips e =
      let f = get_or fields i no_field in
      sym (here ∙ rw (absent i f (presence v f.test f.since) e))

  pub finds : is_absent v (get_or fields i no_field) ≡ false
      → fields_from v i (drop i fields) ≡ found v i (get_or fields i no_field) ∷ fields_from v (i + 1) (drop (i + 1) fields)
  finds e =
      let f = get_or fields i no_field in
      let is = presence_is v f.test f.since in
      here ∙ rw (is, there i f (field_reduced v f.test f.since) (rw is at e))

-- ---- as the code has it

module _ (side : Side) (fields : List CodeField) (same : map field_of fields ≡ (desc_on side).fields) (i : ℕ) (f : CodeField) (lt : i < length fields)
    (is : f ≡ get_or fields i f) where
  inside : i < length (desc_on side).fields
  inside = omega (arith, length-map fields field_of, ap length same)

  field_is : field_of f ≡ get_or (desc_on side).fields i no_field
  field_is = rw same at (sym (get_map_at field_of fields i f no_field lt is))

  pub skip_absent : (present : Bool) → present ≡ not (is_absent side.version (field_of f)) → present ≡ false
      → fields_from side.version (i + 1) (drop (i + 1) (desc_on side).fields) ≡ fields_from side.version i (drop i (desc_on side).fields)
  skip_absent present e absent =
      skips side.version (desc_on side).fields i inside (rw (← field_is) (flipped (is_absent side.version (field_of f)) false (sym e ∙ absent)))

  pub first_found : (from : ℕ) (p : Present) → p.number ≡ i → p.field.now ≡ f → from ≤ i
      → fields_from side.version i (drop i (desc_on side).fields) ≡ fields_from side.version from (drop from (desc_on side).fields)
      → (present : Bool) → present ≡ not (is_absent side.version (field_of f)) → present ≡ true → IsFirst side from p
  first_found from p number field le e present is_present holds =
      let v = side.version in
      let there' : is_absent v (field_of f) ≡ false = flipped (is_absent v (field_of f)) true (sym is_present ∙ holds) in
      record {
        on = record { inside = rw number inside; is = rw (field, number) field_is; there = rw field there' };
        later = rw number le;
        entries = sym e ∙ rw (number, field) (rw (← field_is) at (finds v (desc_on side).fields i inside (rw (← field_is) there')));
      }
