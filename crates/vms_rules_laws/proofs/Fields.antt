-- The relations and rules that the tests of names, at a field and at a validation decide.
use Rattle.vms_rules_laws.proofs.Facade
use Facade.{names_of, ◌≡◌, ◌⊎◌, ℕ, zero, suc, ◌+◌, ◌<◌, ◌&&◌, nat_le, List, [], ◌∷◌, ◌++◌, append_assoc, length}
use Facade.{length-append, take, drop, le_decides, inl, inr, refl, sym, ap, ◌∙◌, subst, arith, Decides, Decides-and, Decides-at, Decides-eqb}
use Facade.{Decides-like, Decides-not, Decides-or, or_assoc, drop_at, take-append-drop, take_at, bytes_eq-Decides, all_names, are_new, is_name, is_name_byte}
use Facade.{is_sub_name, Field, are_distinct, AreNewNames, At, IsName, IsNameByte, IsSubName, IsWithin, Bool, true, false, ◌==◌, if◌then◌else◌}
use Facade.{Option, Some, None, ℤ, pos, ◌≤ℤ◌, AllByRecursion, slice_get, and_from, and_parts, eq-eqb, eqb-true, Decides-ltb, Item, Num, Equal, Unused}
use Facade.{Struct, Kind, InRange, MOST_UNUSED, Count, One, Fixed, Counted, counted, same_number, count_names_well, counts_well, defaults_well, field_rules}
use Facade.{has_good_count, in_range, is_counting, is_counting_item, is_earlier_in, is_small_item, is_small_optional, is_small_test, names_well, nobody}
use Facade.{test_names_well, uses_below, validation_rules, Formula, Desc, AllTrue, same_number_is, ranges, within, counted_well, is_same, ranged, CountFits}
use Facade.{DefaultFits, IsCounting, IsEarlier, IsField, IsSmall, IsSteady, IsValidation, NamesOnly, Nobody}
use Rattle.vms_rules_laws.proofs.Tests
use Tests.{all_decides, one_of_decides, steady_decides, at_places, earlier_decides, names_decides, never, nobody_decides, one_decides, small_decides}

-- ---- bytes and names

pub within_decides : (least most n : ℕ) → Decides (nat_le least n && nat_le n most) (IsWithin least most n)
within_decides least most n = Decides-and _ _ (le_decides least n) (le_decides n most)

byte_decides : (b : ℕ) → Decides (is_name_byte b) (IsNameByte b)
byte_decides b =
    let marks = Decides-or _ _ (Decides-eqb b 95) (Decides-or _ _ (Decides-eqb b 45) (Decides-eqb b 46)) in
    Decides-at _ _ (simp or_assoc)
    (Decides-or _ _ (within_decides 48 57 b) (Decides-or _ _ (within_decides 65 90 b) (Decides-or _ _ (within_decides 97 122 b) marks)))

pub name_decides : (most : ℕ) (name : List ℕ) → Decides (is_name most name) (IsName most name)
name_decides most name =
    Decides-like _ (λ h. record { some = h.0.0; few = h.0.1; each = h.1 }) (λ h. ((h.some, h.few), h.each))
    (Decides-and _ _ (within_decides 1 most _) (all_decides is_name_byte IsNameByte byte_decides _))

pub sub_name_decides : (device name : List ℕ) → Decides (is_sub_name device name) (IsSubName device name)
sub_name_decides device name =
    let n = length device + 1 in
    let front : List ℕ = device ++ 47 ∷ [] in
    let long : length front ≡ n = length-append device (47 ∷ []) in
    let whole : (h : IsSubName device name) → name ≡ front ++ h.tail = λ h. h.is ∙ sym (append_assoc device (47 ∷ []) h.tail) in
    Decides-like _
    (λ h. record { tail = drop n name; is = sym (take-append-drop n name) ∙ rw h.0 (append_assoc device (47 ∷ []) (drop n name)); named = h.1 })
    (λ h. (ap (take n) (whole h) ∙ take_at front h.tail n long, rw (ap (drop n) (whole h) ∙ drop_at front h.tail n long) h.named))
    (Decides-and _ _ (bytes_eq-Decides _ front) (name_decides 64 _))

-- ---- distinct names

pub distinct_decides : (names : List (List ℕ)) → Decides (are_distinct names) ((j k : ℕ) (name : List ℕ) → j < k → At names j name → At names k name → ⊥)
distinct_decides [] = (λ e j k name lt x y. cc, λ h. refl)
distinct_decides (n ∷ names) =
    Decides-like _ (λ h. apart h.0 h.1) (λ h. (λ m. h 0 (suc m.0) n (omega arith) refl m.1, λ j k name lt x y. h (suc j) (suc k) name (omega arith) x y))
    (Decides-and _ _ (Decides-not _ (one_of_decides names n)) (distinct_decides names))
  where
    apart : (((k : ℕ) × At names k n) → ⊥) → ((j k : ℕ) (name : List ℕ) → j < k → At names j name → At names k name → ⊥)
        → (j k : ℕ) (name : List ℕ) → j < k → At (n ∷ names) j name → At (n ∷ names) k name → ⊥
    apart none later j zero name lt x y = omega arith
    apart none later zero (suc k) name lt x y = let same : n ≡ name = cc in none (k, rw same y)
    apart none later (suc j) (suc k) name lt x y = later j k name (omega arith) x y

-- the names are distinct, and none of them is among the earlier ones
record AreAllNew (earlier names : List (List ℕ)) : Type 0 where
  new : (a b : ℕ) (name : List ℕ) → At earlier a name → At names b name → ⊥
  once : (a b : ℕ) (name : List ℕ) → a < b → At names a name → At names b name → ⊥

all_new_decides : (names earlier : List (List ℕ)) → Decides (are_new earlier names) (AreAllNew earlier names)
all_new_decides [] earlier = (λ e. record { new = λ a b name x y. cc; once = λ a b name lt x y. cc }, λ h. refl)
all_new_decides (m ∷ names) earlier =
    Decides-like _ (λ h. record { new = new-so h.0 h.1; once = once-so h.1 })
    (λ h. (λ k. h.new k.0 0 m k.1 refl, record { new = before h; once = λ a b name lt x y. h.once (suc a) (suc b) name (omega arith) x y }))
    (Decides-and _ _ (Decides-not _ (one_of_decides earlier m)) (all_new_decides names (m ∷ earlier)))
  where
    new-so : (((k : ℕ) × At earlier k m) → ⊥) → AreAllNew (m ∷ earlier) names → (a b : ℕ) (name : List ℕ) → At earlier a name → At (m ∷ names) b name → ⊥
    new-so none r a zero name x y = let same : m ≡ name = cc in none (a, rw same x)
    new-so none r a (suc b) name x y = r.new (suc a) b name x y

    once-so : AreAllNew (m ∷ earlier) names → (a b : ℕ) (name : List ℕ) → a < b → At (m ∷ names) a name → At (m ∷ names) b name → ⊥
    once-so r a zero name lt x y = omega arith
    once-so r zero (suc b) name lt x y = r.new zero b name x y
    once-so r (suc a) (suc b) name lt x y = r.once a b name (omega arith) x y

    before : AreAllNew earlier (m ∷ names) → (a b : ℕ) (name : List ℕ) → At (m ∷ earlier) a name → At names b name → ⊥
    before h zero b name x y = h.once 0 (suc b) name (omega arith) x y
    before h (suc a) b name x y = h.new a (suc b) name x y

-- ---- names of fields

append-at : (xs ys : List (List ℕ)) (k : ℕ) (n : List ℕ) → At (xs ++ ys) k n → At xs k n ⊎ ((j : ℕ) × At ys j n)
append-at [] ys k n e = inr (k, e)
append-at (x ∷ xs) ys zero n e = inl e
append-at (x ∷ xs) ys (suc k) n e = append-at xs ys k n e

append-left : (xs ys : List (List ℕ)) (k : ℕ) (n : List ℕ) → At xs k n → At (xs ++ ys) k n
append-left [] ys k n e = cc
append-left (x ∷ xs) ys zero n e = e
append-left (x ∷ xs) ys (suc k) n e = append-left xs ys k n e

append-later : (xs ys : List (List ℕ)) (k : ℕ) (n : List ℕ) → At ys k n → (a : ℕ) × At (xs ++ ys) a n
append-later [] ys k n e = (k, e)
append-later (x ∷ xs) ys k n e = let r = append-later xs ys k n e in (suc r.0, r.1)

-- a name of one of the first i fields
record IsBefore (fields : List Field) (i : ℕ) (n : List ℕ) : Type 0 where
  field : ℕ
  name : ℕ
  is : Field
  early : field < i
  there : At fields field is
  named : At (names_of is) name n

named-before : (fields : List Field) (i a : ℕ) (n : List ℕ) → At (all_names (take i fields)) a n → IsBefore fields i n
named-before fields zero a n e = cc
named-before [] (suc i) a n e = cc
named-before (f ∷ fs) (suc i) zero n e = record { field = 0; name = 0; is = f; early = omega arith; there = refl; named = e }
named-before (f ∷ fs) (suc i) (suc a) n e = elim (append-at _ _ a n e) [
  | inl x ↦ record { field = 0; name = suc a; is = f; early = omega arith; there = refl; named = x }
  | inr y ↦ let r = named-before fs i y.0 n y.1 in record {
    field = suc r.field;
    name = r.name;
    is = r.is;
    early = omega arith;
    there = r.there;
    named = r.named;
  }
]

first-named : (f : Field) (rest : List (List ℕ)) (c : ℕ) (n : List ℕ) → At (names_of f) c n → (a : ℕ) × At (f.name ∷ (f.former ++ rest)) a n
first-named f rest zero n e = (0, e)
first-named f rest (suc c) n e = (suc c, append-left _ rest c n e)

before-named : (fields : List Field) (i j : ℕ) (g : Field) (c : ℕ) (n : List ℕ) → j < i → At fields j g → At (names_of g) c n
    → (a : ℕ) × At (all_names (take i fields)) a n
before-named fields zero j g c n lt there named = absurd (omega arith)
before-named [] (suc i) j g c n lt there named = cc
before-named (f ∷ fs) (suc i) zero g c n lt there named =
    let same : f ≡ g = cc in
    first-named f (all_names (take i fs)) c n (subst (λ x. At (names_of x) c n) (sym same) named)
before-named (f ∷ fs) (suc i) (suc j) g c n lt there named =
    let r = before-named fs i j g c n (omega arith) there named in
    let s = append-later _ _ r.0 n r.1 in
    (suc s.0, s.1)

pub new_names_decides : (fields : List Field) (i : ℕ) (f : Field) → Decides (are_new (all_names (take i fields)) (f.name ∷ f.former)) (AreNewNames fields i f)
new_names_decides fields i f =
    Decides-like _ (λ r. record {
      new = λ j a b g name lt there x y. let s = before-named _ _ _ _ _ _ lt there x in r.new s.0 b name s.1 y;
      once = r.once;
    }) (λ h. record {
      new = λ a b name x y. let s = named-before _ _ _ _ x in h.new s.field s.name b s.is name s.early s.there s.named y;
      once = h.once;
    }) (all_new_decides (f.name ∷ f.former) (all_names (take i fields)))

-- ---- the rules that the tests at a field and at a validation decide: tests

-- the same of a test, if there is one
optional_decides : (p : Formula → Bool) (P : Formula → Type 0) (b : Option Formula → Bool) → ((t : Formula) → Decides (p t) (P t)) → b None ≡ true
    → ((t : Formula) → b (Some t) ≡ p t)
    → (o : Option Formula) → Decides (b o) ((t : Formula) → o ≡ Some t → P t)
optional_decides p P b each none some o = search (arith)

test_decides : (d : Desc) (i : ℕ) (o : Option Formula) → Decides (test_names_well d i o) ((t : Formula) → o ≡ Some t → NamesOnly (IsEarlier d i) Nobody t)
test_decides d i o =
    optional_decides (names_well (is_earlier_in d i) nobody) (NamesOnly (IsEarlier d i) Nobody) (test_names_well d i)
    (names_decides (is_earlier_in d i) nobody (IsEarlier d i) Nobody (earlier_decides d i) nobody_decides) refl (λ t. refl) _

optional_small : (o : Option Formula) → Decides (is_small_optional o) ((t : Formula) → o ≡ Some t → IsSmall t)
optional_small o = optional_decides is_small_test IsSmall is_small_optional small_decides refl (λ t. refl) _

-- ---- items and counts

counting_decides : (item : Item) → Decides (is_counting_item item) (IsCounting item)
counting_decides item = search (arith)

-- a count that names a field
abbrev NamesCount : Desc → ℕ → Count → Type 0
NamesCount d i c = (by most : ℕ) → c ≡ Counted by most → (steady : IsEarlier d i by) × IsCounting steady.1.field.item

count_decides : (d : Desc) (i : ℕ) (c : Count) → Decides (count_names_well d i c) (NamesCount d i c)
count_decides d i One = (λ e by most same. cc, λ h. refl)
count_decides d i (Fixed n) = (λ e by most same. cc, λ h. refl)
count_decides d i (Counted k n) = (λ e. so e, λ h. back (h k n refl))
  where
    item_at : (s : IsSteady d k) → is_counting (slice_get d.fields k) ≡ is_counting_item s.field.item
    item_at s = ap is_counting s.there

    so : count_names_well d i (Counted k n) ≡ true → NamesCount d i (Counted k n)
    so e = λ by most same.
        let both = and_parts (is_earlier_in d i k) (is_counting (slice_get d.fields k)) e in
        let s = (earlier_decides d i k).0 both.0 in
        let here : (steady : IsEarlier d i k) × IsCounting steady.1.field.item = (s, (counting_decides s.1.field.item).0 (sym (item_at s.1) ∙ both.1)) in
        let is : k ≡ by = cc in
        rw is at here

    back : ((steady : IsEarlier d i k) × IsCounting steady.1.field.item) → count_names_well d i (Counted k n) ≡ true
    back h = grind (arith, and_from, item_at)

uses_decides : (k : ℕ) (item : Item) → Decides (uses_below k item) ((j : ℕ) → item ≡ Struct j → j < k)
uses_decides k (Struct i) = (λ e j same. let is : i ≡ j = cc in rw is at ((Decides-ltb i k).0 e), λ h. (Decides-ltb i k).1 (h i refl))
uses_decides k _ = (λ e j same. cc, λ h. refl)

unused_decides : (item : Item) → Decides (is_small_item item) ((n : ℕ) → item ≡ Unused n → IsWithin 1 MOST_UNUSED n)
unused_decides (Unused m) =
    (λ e n same. let is : m ≡ n = cc in rw is at ((within_decides 1 MOST_UNUSED m).0 e), λ h. (within_decides 1 MOST_UNUSED m).1 (h m refl))
unused_decides _ = (λ e n same. cc, λ h. refl)

good_count_decides : (item : Item) (c : Count) → Decides (has_good_count item c) (CountFits item c)
good_count_decides item c = search (arith, le_decides, one_decides)

-- ---- defaults

zero_decides : (z : ℤ) → Decides (same_number z (pos 0)) (z ≡ pos 0)
zero_decides z = (same_number_is z _, is_same z (pos 0))

range_decides : (kind : Kind) (z : ℤ) → Decides (in_range kind z) (InRange kind z)
range_decides kind z = (ranges kind z, ranged kind z)

default_decides : (item : Item) (z : ℤ) → Decides (defaults_well item z) (DefaultFits item z)
default_decides (Num kind) z = range_decides kind z
default_decides (Equal kind y) z = Decides-and _ _ (range_decides kind y) (zero_decides z)
default_decides _ z = zero_decides z

-- a property of the capacities of the arrays that field i counts
module _ (P : ℕ → Type 0) (i : ℕ) where
  abbrev OfCounted : List Field → Type 0
  OfCounted fs = (j most : ℕ) (g : Field) → At fs j g → g.count ≡ Counted i most → P most

  abbrev OfOne : Count → Type 0
  OfOne c = (most : ℕ) → c ≡ Counted i most → P most

  abbrev of_count : Count → Field → Field
  of_count c f = record f { count = c }

  -- the first field counts one of these, and so do the others
  abbrev BothWays : Count → List Field → List ℕ → Type 0
  BothWays c fs all = (AllByRecursion P all → OfOne c × AllByRecursion P (counted i fs)) × (OfOne c → AllByRecursion P (counted i fs) → AllByRecursion P all)

  pick : (fs : List Field) (by most : ℕ) (b : Bool) → (by == i) ≡ b → BothWays (Counted by most) fs ((if b then most ∷ [] else []) ++ counted i fs)
  pick fs by most true e = (λ h. (λ m same. let is : most ≡ m = cc in rw is at h.0, h.1), λ one h. (one most (rw (eqb-true by i e)), h))
  pick fs by most false e = (λ h. (λ m same. let is : by ≡ i = cc in absurd (never (sym e ∙ eq-eqb by i is)), h), λ one h. h)

  first : (c : Count) (f : Field) (fs : List Field) → BothWays c fs (counted i (of_count c f ∷ fs))
  first (Counted by most) f fs = pick fs by most (by == i) refl
  first _ f fs = (λ h. (λ m same. cc, h), λ one h. h)

  pub counted_each : (fs : List Field) → AllByRecursion P (counted i fs) → OfCounted fs
  counted_each [] h = λ j most g there same. cc
  counted_each (f ∷ fs) h =
      let own = (first _ f fs).0 h in
      let all = at_places (λ (g : Field). OfOne g.count) _ _ own.0 (λ j g there most same. counted_each fs own.1 j most g there same) in
      λ j most g there same. all j g there most same

  pub each_counted : (fs : List Field) → OfCounted fs → AllByRecursion P (counted i fs)
  each_counted [] h = tt
  each_counted (f ∷ fs) h = (first _ f fs).1 (λ most same. h 0 most f refl same) (each_counted fs (λ j most g there same. h (suc j) most g there same))

counts_decides : (i : ℕ) (fs : List Field) (z : ℤ)
    → Decides (counts_well (counted i fs) z) ((j most : ℕ) (g : Field) → At fs j g → g.count ≡ Counted i most → z ≤ℤ pos most)
counts_decides i fs z = search (arith, counted_each, within, counted_well, each_counted)

-- ---- a field, and a validation

-- eight rules that hold
pub all_eight : {a b c d e f g h : Bool} → a ≡ true → b ≡ true → c ≡ true → d ≡ true → e ≡ true → f ≡ true → g ≡ true → h ≡ true
    → AllTrue (a ∷ b ∷ c ∷ d ∷ e ∷ f ∷ g ∷ h ∷ [])
all_eight a b c d e f g h = (a, (b, (c, (d, (e, (f, (g, (h, tt))))))))

pub field_decides : (k : ℕ) (d : Desc) (i : ℕ) (f : Field)
    → (AllTrue (field_rules k d i f) → IsField k d i f) × (IsField k d i f → AllTrue (field_rules k d i f))
field_decides k d i f =
    let named = all_decides (is_name 32) (IsName 32) (name_decides 32) (f.name ∷ f.former) in
    let new = new_names_decides d.fields i f in
    let names = Decides-and _ _ (test_decides d i f.test) (count_decides d i _) in
    let uses = uses_decides k f.item in
    let defaults = Decides-and _ _ (default_decides f.item _) (counts_decides i _ _) in
    let limits = Decides-and _ _ (Decides-and _ _ (le_decides _ 8) (optional_small f.test)) (unused_decides f.item) in
    let good = good_count_decides f.item _ in (
      λ r.
          let named_ones = names.0 r.1.1.1.0 in
          let fitting = defaults.0 r.1.1.1.1.1.0 in
          let few = limits.0 r.1.1.1.1.1.1.0 in
          record {
            named = named.0 r.0;
            new = new.0 r.1.0;
            test = named_ones.0;
            count = named_ones.1;
            uses = uses.0 r.1.1.1.1.0;
            default = fitting.0;
            counts = fitting.1;
            few_former = few.0.0;
            small = few.0.1;
            unused = few.1;
            good_count = good.0 r.1.1.1.1.1.1.1.0;
          },
      λ h.
          all_eight (named.1 h.named) (new.1 h.new) refl (names.1 (h.test, h.count)) (uses.1 h.uses) (defaults.1 (h.default, h.counts))
          (limits.1 ((h.few_former, h.small), h.unused)) (good.1 h.good_count),
    )

pub validation_decides : (d : Desc) (t : Formula) → (AllTrue (validation_rules d t) → IsValidation d t) × (IsValidation d t → AllTrue (validation_rules d t))
validation_decides d t = search (arith, names_decides, steady_decides, nobody_decides, small_decides, all_eight)
