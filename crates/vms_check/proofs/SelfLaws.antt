-- A well-formed set is compatible to itself.
use Rattle.vms_check.proofs.{PairLaws.spot_is, PairLaws.same_at, SetsFit.so_fits}
use Rattle.vms_check.proofs.CapacityLaws.{IfOpen, IsByParts, all_least, counted_at, open_reduced}
use Rattle.vms_check.proofs.Facade
use Facade.{◌≡◌, ℕ, zero, suc, ◌≤◌, List, ◌∷◌, ◌++◌, Bool, true, false, Some, refl, ap, arith, [], Option, None, inr, ◌+◌, ◌<◌}
use Facade.{length, get_or, ◌==◌, ◌&&◌, nat_lt, slice_get, eq-eqb, and_parts, le-leb, leb-true, and_from, eqb-true, or_left, or_right, slice_get-get_or}
use Facade.{bytes_eq, bytes_eq-Decides, any_passes_from_place, Item, Count, Counted, counted, no_desc, Field, Formula, Desc, Sub, Device, Set, bound}
use Facade.{holds_as_much, is_absent, same_constant, same_count, same_item, same_place, same_reduced, same_rest, same_test, Compatible, Entry, entry_of}
use Facade.{is_found, has_no_test, is_num, is_one, is_steady, is_steady_in, names_well, nobody, count_names_well, is_counting, is_earlier_in, test_names_well}
use Facade.{untested, Clean, struct_clean, device_parts, sub_clean, device_found, sub_found, Reduced, presence, reduced, field_reduced, position_in}
use Facade.{fields_from, find_device, is_version_of, is_one_of, WellFormed, struct_rules, device_rules, sub_rules, ArePaired, DescsFit, DevicesFit, IsSubFor}
use Facade.{fields_at, AllByRecursion}
use Rattle.vms_check.specs.Comparing.{least_of}
use Rattle.std.specs.Prelude.{nat_le}

-- ---- What a number can be is at most each capacity that it counts.

all_bound : (item : Item) (ms : List ℕ) → AllByRecursion (λ m. bound item ms ≤ m) ms
all_bound item [] = tt
all_bound item (m ∷ ms) = all_least (least_of m ms) m ms (omega arith)

-- ---- The rest of a test is the same as itself, if each number that it names has a position.

itself : (n : ℕ) → (n == n) ≡ true
itself n = eq-eqb n n refl

-- ---- positions

abbrev pub HasPosition : (ℕ → Option ℕ) → ℕ → Type 0
HasPosition o k = (p : ℕ) × (o k ≡ Some p)

same_here : (x : Option ℕ) (p : ℕ) → x ≡ Some p → same_place x x ≡ true
same_here x p e = rw e (itself p)

-- a steady field is there from the minimum on
pub steady_there : (d : Desc) (v k : ℕ) → d.minimum ≤ v → is_steady_in d k ≡ true → HasPosition (position_in v d.fields) k
steady_there d v k low e = by_field (slice_get d.fields k) refl e
  where
    by_field : (o : Option Field) → slice_get d.fields k ≡ o → is_steady d.minimum o ≡ true → HasPosition (position_in v d.fields) k
    by_field None is s = cc
    by_field (Some f) is s =
        let a = and_parts (is_num f.item && is_one f.count && has_no_test f.test) (nat_le f.since d.minimum) s in
        let b = and_parts (is_num f.item && is_one f.count) (has_no_test f.test) a.0 in
        let there : is_absent v f ≡ false = rw (untested f.test b.1, le-leb f.since v (omega (arith, leb-true f.since d.minimum a.1))) in
        (_, rw (is, there) at (spot_is v d.fields k))

-- ---- tests

module _ (o : ℕ → Option ℕ) where
  abbrev IsSame : Formula → Type 0
  IsSame t = same_test o o t t ≡ true

  abbrev pub IsSelf : Reduced → Type 0
  IsSelf r = IfOpen IsSame r

  same_by_parts : IsByParts IsSame
  same_by_parts = search (arith, and_from)

  pub reduced_self : (ok : ℕ → Bool) → ((k : ℕ) → ok k ≡ true → HasPosition o k) → (v : ℕ) (t : Formula) → names_well ok nobody t ≡ true → IsSelf (reduced v t)
  reduced_self ok has v t e = grind (arith, open_reduced, same_by_parts, same_here, itself)

  pub same_self : (r : Reduced) → IsSelf r → same_reduced o o r r ≡ true
  same_self r h = grind arith

  pub rest_self : (v : ℕ) (test : Option Formula) (since : ℕ) (rest : Option Formula) → IsSelf (field_reduced v test since)
      → presence v test since ≡ Some rest → same_rest o o rest rest ≡ true
  rest_self v test since rest h e = grind arith

  -- ---- counts

  pub count_self : (c : Count) → ((by most : ℕ) → c ≡ Counted by most → HasPosition o by) → same_count o o c c ≡ true
  count_self c h = grind (arith, itself, same_here)

-- ---- items and capacities

pub item_self : (x : Item) → same_item x x ≡ true
item_self x = grind (arith, itself)

pub constant_self : (x : Item) → same_constant x x ≡ true
constant_self x = grind arith

pub holds_self : (c : Count) → holds_as_much c c ≡ true
holds_self c = grind arith

-- ---- A well-formed set is compatible to itself: its entries.

-- e is a field of these, and there
abbrev IsEntry : ℕ → List Field → Entry → Type 0
IsEntry v fs e = (slice_get fs e.index ≡ Some e.field) × (presence v e.field.test e.field.since ≡ Some e.rest)

-- a property of each field from one on that is there holds of the entries
entries_are : (v : ℕ) (all : List Field) (i : ℕ) (fs : List Field) → ((k : ℕ) → slice_get all (i + k) ≡ slice_get fs k)
    → (p : ℕ) (e : Entry) → slice_get (fields_from v i fs) p ≡ Some e → IsEntry v all e
entries_are v all i [] here p e h = cc
entries_are v all i (f ∷ fs) here p e h =
    by (presence v f.test f.since) refl p h (entries_are v all (suc i) fs (λ k. let s : suc i + k ≡ i + suc k = omega arith in rw s (here (suc k))))
  where
    by : (o : Option (Option Formula)) → presence v f.test f.since ≡ o → (p : ℕ) → slice_get (entry_of i 0 f o ++ fields_from v (suc i) fs) p ≡ Some e
        → ((q : ℕ) (g : Entry) → slice_get (fields_from v (suc i) fs) q ≡ Some g → IsEntry v all g) → IsEntry v all e
    by None is p h more = more p e h
    by (Some rest) is zero h more =
        let same : record { index = i; place = 0; field = f; rest = rest } ≡ e = cc in
        let z : i + 0 ≡ i = omega arith in
        rw (← same) (rw z at (here 0), is)
    by (Some rest) is (suc p) h more = more p e h

-- ---- one description

module _ (d : Desc) (v : ℕ) (low : d.minimum ≤ v) where
  abbrev positions : ℕ → Option ℕ
  positions = position_in v d.fields

  abbrev equal : ℕ → ℕ → Bool
  equal i j = i == j

  record IsNamedWell : Type 0 where
    pub fields : (i : ℕ) (f : Field) → slice_get d.fields i ≡ Some f → (test_names_well d i f.test ≡ true) × (count_names_well d i f.count ≡ true)
    pub validations : (i : ℕ) (t : Formula) → slice_get d.validate i ≡ Some t → names_well (is_steady_in d) nobody t ≡ true

  steady : (k : ℕ) → is_steady_in d k ≡ true → HasPosition positions k
  steady k e = steady_there d v k low e

  earlier : (i k : ℕ) → is_earlier_in d i k ≡ true → HasPosition positions k
  earlier i k e = steady k (and_parts (nat_lt k i) (is_steady_in d k) e).1

  test_self : (i : ℕ) (test : Option Formula) (since : ℕ) → test_names_well d i test ≡ true → IsSelf positions (field_reduced v test since)
  test_self i None since e = tt
  test_self i (Some t) since e = reduced_self positions (is_earlier_in d i) (earlier i) v t e

  counts : (i : ℕ) (c : Count) → count_names_well d i c ≡ true → (by most : ℕ) → c ≡ Counted by most → HasPosition positions by
  counts i c e by most is = earlier i by (and_parts (is_earlier_in d i by) (is_counting (slice_get d.fields by)) (rw is at e)).0

  pair_self : IsNamedWell → (p : ℕ) (e : Entry) → slice_get (fields_at d v) p ≡ Some e → ArePaired equal d d v v e e
  pair_self well p e h =
      let x = entries_are v d.fields 0 d.fields (λ k. let z : 0 + k ≡ k = omega arith in rw z) p e h in
      let names = well.fields e.index e.field x.0 in
      let tests = rest_self positions v e.field.test e.field.since e.rest (test_self e.index e.field.test e.field.since names.0) x.1 in
      record {
        covered = λ c. tests;
        alike = λ c. record {
          counts = count_self positions e.field.count (counts e.index e.field.count names.1);
          kinds = item_self e.field.item;
          tests = tests;
          names = rw ((bytes_eq-Decides e.field.name e.field.name).1 refl);
          capacities = holds_self e.field.count;
          room = λ k g most there absent is.
              let caps = counted e.index d.fields in
              counted_at (λ m. bound e.field.item caps ≤ m) e.index d.fields k g most there is (all_bound e.field.item caps);
          constants = constant_self e.field.item;
          structs = λ i j is_i is_j. eq-eqb i j cc;
        };
      }

  desc_self : IsNamedWell → DescsFit equal d d v v
  desc_self well = record {
    as_many = refl;
    pairs = λ p e f left right. rw (← (same_at (fields_at d v) p e f left right)) (pair_self well p e left);
    validations = λ k t there.
        inr (any_passes_from_place (λ (s : Formula). same_reduced positions positions (reduced v s) (reduced v t)) d.validate k t there
        (same_self positions (reduced v t) (reduced_self positions (is_steady_in d) steady v t (well.validations k t there))));
  }

clean_self : (k : ℕ) (d : Desc) (rules : List Bool) → Clean k d rules → d.minimum ≤ d.version → DescsFit (λ i j. i == j) d d d.version d.version
clean_self k d rules c low = desc_self d d.version low (record {
  fields = λ i f e. and_parts (test_names_well d i f.test) (count_names_well d i f.count) (c.fields i f e).1.1.1.0;
  validations = λ i t e. (c.validations i t e).1.1.1.0;
})

own_version : (d : Desc) → d.minimum ≤ d.version → is_version_of d d.version ≡ true
own_version d low = rw (le-leb d.minimum d.version low) (le-leb d.version d.version (omega arith))

-- ---- the set: its names

-- a name that is in a list of names is one of them
pub is_among : (names : List (List ℕ)) (i : ℕ) (name : List ℕ) → slice_get names i ≡ Some name → is_one_of names name ≡ true
is_among [] i name e = cc
is_among (n ∷ names) zero name e = let same : n ≡ name = cc in or_left (bytes_eq n name) (is_one_of names name) ((bytes_eq-Decides n name).1 same)
is_among (n ∷ names) (suc i) name e = or_right (bytes_eq n name) (is_one_of names name) (is_among names i name e)

module _ (set : Set) (well : WellFormed set) where
  abbrev same : ℕ → ℕ → Bool
  same i j = i == j

  structs_self : (i j : ℕ) → j < length set.structs → same i j ≡ true
      → DescsFit same (get_or set.structs i no_desc) (get_or set.structs j no_desc) (get_or set.structs i no_desc).version
      (get_or set.structs j no_desc).version
  structs_self i j lt e =
      let d = get_or set.structs j no_desc in
      let c = struct_clean set well j d (slice_get-get_or set.structs j no_desc lt) in
      rw (eqb-true i j e) (clean_self j d (struct_rules set.structs j d) c (leb-true d.minimum d.version c.own.1.1.0))

  sub_self : (k j : ℕ) (d : Device) (s : Sub) → slice_get set.devices k ≡ Some d → slice_get d.subs j ≡ Some s → IsSubFor same s d j s
  sub_self k j d s there inside =
      let c = sub_clean set well k j d s there inside in
      let low : s.desc.minimum ≤ s.desc.version = leb-true s.desc.minimum s.desc.version c.own.1.1.0 in
      record {
        found = sub_found set well k j d s there inside;
        there = inside;
        version = own_version s.desc low;
        fits = clean_self (length set.structs) s.desc (sub_rules d j s) c low;
      }

  device_self : (k : ℕ) (d : Device) → slice_get set.devices k ≡ Some d → DevicesFit same d d
  device_self k d there =
      let c = (device_parts set well k d there).0 in
      let low : d.desc.minimum ≤ d.desc.version = leb-true d.desc.minimum d.desc.version c.own.1.1.0 in
      record {
        version = own_version d.desc low;
        fits = clean_self (length set.structs) d.desc (device_rules set k d) c low;
        subs = λ j s inside. (j, s, sub_self k j d s there inside);
      }

  found_self : (i k : ℕ) (d e : Device) → slice_get set.devices i ≡ Some d → find_device 0 set.devices d.desc.name d.instance ≡ Some k
      → slice_get set.devices k ≡ Some e → DevicesFit same d e
  found_self i k d e inside found there =
      let number : i ≡ k = cc (device_found set well i d inside) in
      let same_device : d ≡ e = cc in
      rw (← same_device) (device_self i d inside)

  pub reflexive : Compatible set set
  reflexive = so_fits set set well (
    same,
    record {
      machines = is_among set.machines;
      kept = λ i d e. ap is_found (device_found set well i d e);
      known = λ i d e. ap is_found (device_found set well i d e);
      structs = structs_self;
      devices = found_self;
    },
  )
