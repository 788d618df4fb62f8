-- Numbers that count fit all capacities, and what well-formedness gives to the laws on pairs of
-- sets.
use Rattle.vms_check_laws.proofs.Facade
use Facade.{absent_hold, bound, least_of, has_room, AllZip, ◌≤ℤ◌, ◌≡◌, inl, inr, ℕ, zero, suc, ◌+◌, ◌≤◌, true, List, ◌∷◌}
use Facade.{◌++◌, length, get_or, Some, refl, arith, ℤ, pos, if◌then◌else◌, AllByRecursion, slice_get, eq-eqb, ints, ◌<◌, [], min, Bool, false}
use Facade.{Option, None, sym, nat_le, and_parts, eqb-true, leb-true, Kind, U8, U16, U32, Item, Num, width, residue, Count, Counted, Field, Cell, times}
use Facade.{counted, capacity_of, item_cells, field_cells, cells_from, place_of, no_field, kind_of, FitsCell, is_num, is_one, ItemBelow, FitsAt, Desc}
use Facade.{is_steady_in, no_desc, highest, Formula, presence, Entry, entry_of, present_from, position_from, same_place, same_count, holds_as_much, defaults}
use Facade.{and_from, slice_get-get_or, Own, Parent, Not, And, Or, Sub, Device, Set, names_well, nobody, is_steady, is_earlier_in, ◌&&◌, test_names_well}
use Facade.{count_names_well, is_counting, defaults_well, counts_well, has_good_count, validation_rules, WellFormed, AllTrue, item_below, Clean, within}
use Facade.{struct_clean, device_parts, sub_clean}
use Rattle.vms_check_laws.proofs.Premises.{Met, NewGood, news, IsSingle, CountFits, OldFields, DefaultsGood, NamesEarlier, NewFields, RulesNamed, Sides}
use Rattle.vms_check_laws.proofs.Premises.{Matched, decoded, CountNamed, ItemDefault}
use Rattle.vms_check_laws.proofs.Presence.{fits_right, Steady, covers_unused, at_or_later, Above, NamedRest, steady}
use Rattle.vms_check.proofs.CapacityLaws.{counted_at}
use Rattle.vms_spec.specs.Sets as sets

-- ---- a number that fits its cell is at most every capacity that it counts, and one that fits the older capacities fits the newer

-- the number of field k of these, the first of which has the number i and begins at a place
abbrev pub field_number : List (List Cell) → List Field → List Field → ℕ → List ℤ → ℕ → ℕ → ℕ
field_number cs all fs i numbers at k = residue (width (kind_of (get_or fs k no_field).item)) (get_or numbers (place_of cs all i at fs k) (pos 0))

first_fits : (cs : List (List Cell)) (item : Item) (count : Count) (caps : List ℕ) (d : ℤ) (more : List Cell) (numbers : List ℤ) (at : ℕ) → is_num item ≡ true
    → is_one count ≡ true → FitsAt (times (capacity_of count) (λ _. item_cells cs item caps d) 0 0 ++ more) numbers at
    → FitsCell (record { kind = kind_of item; capacities = caps; default = d }) (get_or numbers at (pos 0))
first_fits cs item count caps d more numbers at num one fits = grind arith

-- the number of a single field, and that it fits
pub record Single (kind : Kind) (caps : List ℕ) (default : ℤ) (own : ℕ) : Type 0 where
  pub number : ℤ
  pub fits : FitsCell (record { kind = kind; capacities = caps; default = default }) number
  pub is : own ≡ residue (width kind) number

pub single_at : (cs : List (List Cell)) (all fs : List Field) (i k : ℕ) (numbers : List ℤ) (at : ℕ) (g : Field) → slice_get fs k ≡ Some g → Steady g
    → FitsAt (cells_from cs all i fs) numbers at → Single (kind_of g.item) (counted (i + k) all) g.default (field_number cs all fs i numbers at k)
single_at cs all [] i k numbers at g e s fits = absurd (cc)
single_at cs all (f ∷ fs) i zero numbers at g e s fits =
    let same : f ≡ g = cc in
    let z : i + 0 ≡ i = omega arith in
    let at_f : Steady f = rw same s in
    rw (← same, z) (record { number = get_or numbers at (pos 0); fits = first_fits cs f.item _ _ _ _ _ at at_f.item at_f.count fits; is = refl })
single_at cs all (f ∷ fs) i (suc k) numbers at g e s fits =
    let z : suc i + k ≡ i + suc k = omega arith in
    rw (← z) (single_at cs all fs (suc i) k numbers (at + length (field_cells cs all i f)) g e s (fits_right _ fits))

abbrev pub IsCounting : Item → Type 0
IsCounting (Num U8) = Unit {0}
IsCounting (Num U16) = Unit {0}
IsCounting (Num U32) = Unit {0}
IsCounting _ = ⊥

counting_below : (item : Item) (caps : List ℕ) (d z : ℤ) (most : ℕ) → IsCounting item
    → FitsCell (record { kind = kind_of item; capacities = caps; default = d }) z → z ≤ℤ pos most → residue (width (kind_of item)) z ≤ most
counting_below item caps d z most c fits high = grind arith

-- field `by` may count
pub record Counter (all : List Field) (by : ℕ) : Type 0 where
  pub field : Field
  pub stands : slice_get all by ≡ Some field
  pub steady : Steady field
  pub kind : IsCounting field.item

-- ---- what old's fields need, without numbers

abbrev pub CountKnown : List Field → Count → Type 0
CountKnown all (Counted by most) = Counter all by
CountKnown all _ = Unit {0}

pub record OldPlain (below : ℕ) (all : List Field) (f : Field) : Type 0 where
  pub item : ItemBelow below f.item
  pub single : IsSingle f.item f.count
  pub count : CountKnown all f.count

abbrev pub OldPlains : ℕ → List Field → Type 0
OldPlains below all = (j : ℕ) (f : Field) → slice_get all j ≡ Some f → OldPlain below all f

fits_count : (cs : List (List Cell)) (all : List Field) (numbers : List ℤ) (at i : ℕ) (f : Field) (c : Count) → slice_get all i ≡ Some f → f.count ≡ c
    → FitsAt (cells_from cs all 0 all) numbers at → CountKnown all c → CountFits (λ k. field_number cs all all 0 numbers at k) c
fits_count cs all numbers at i f (Counted by most) is e fits c =
    let s = single_at cs all all 0 by numbers at c.field c.stands c.steady fits in
    let z : 0 + by ≡ by = omega arith in
    rw s.is (counting_below _ _ c.field.default s.number most c.kind s.fits (counted_at (λ m. s.number ≤ℤ pos m) by all i f most is e (rw z at s.fits.1)))
fits_count cs all numbers at i f _ is e fits known = tt

pub old_fields : (cs : List (List Cell)) (below : ℕ) (all : List Field) (numbers : List ℤ) (at : ℕ) → FitsAt (cells_from cs all 0 all) numbers at
    → OldPlains below all → OldFields below (λ k. field_number cs all all 0 numbers at k) all
old_fields cs below all numbers at fits plain j f is =
    let p = plain j f is in
    record { item = p.item; single = p.single; count = fits_count cs all _ at j f _ is refl fits p.count }

-- what a description without a fault gives, as the older set's and as the newer's, which uses structures below k
pub record DescGood (k : ℕ) (d : Desc) : Type 0 where
  pub old : OldPlains k d.fields
  pub new : NewFields k (is_steady_in d) d.fields
  pub earlier : NamesEarlier k d
  pub defaults : DefaultsGood d.fields 0 d.fields
  pub rules : RulesNamed (is_steady_in d) d.validate

abbrev pub StructsGood : List Desc → Type 0
StructsGood ds = (j : ℕ) → j < length ds → DescGood j (get_or ds j no_desc)

pub item_further : (j k : ℕ) (i : Item) → j ≤ k → ItemBelow j i → ItemBelow k i
item_further j k i le h = grind arith

pub plains_further : (j k : ℕ) (all : List Field) → j ≤ k → OldPlains j all → OldPlains k all
plains_further j k all le h i f e = let p = h i f e in record { item = item_further j k f.item le p.item; single = p.single; count = p.count }

module _ (o n : ℕ → Option ℕ) where
  -- what is on old's side at the position of new's field is old's field of the pair
  abbrev pub IsIndexed : Entry → Entry → Type 0
  IsIndexed e f = (by : ℕ) → same_place (o by) (n f.index) ≡ true → by ≡ e.index

  pub indexed : (R : Entry → Entry → Type 0) (p low : ℕ) (es fs : List Entry) → AllZip R es fs → Above low fs
      → ((by j : ℕ) → low ≤ j → same_place (o by) (n j) ≡ true → same_place (position_from p es by) (position_from p fs j) ≡ true)
      → AllZip (λ e f. R e f × IsIndexed e f) es fs
  indexed R p low [] [] all rising h = tt
  indexed R p low (e ∷ es) (f ∷ fs) all rising h = (
    (
      all.0,
      λ by k.
          elim (at_or_later by f.index p e f es fs (h by f.index rising.0 k)) [ inl here ↦ sym here.0 | inr later ↦ absurd (cc (eq-eqb f.index f.index refl)) ],
    ),
    indexed R (suc p) (suc f.index) es fs all.1 rising.1
        (λ by j le k. elim (at_or_later by j p e f es fs (h by j (omega arith) k)) [ inl here ↦ absurd (omega arith) | inr later ↦ later.1 ]),
  )
  indexed R p low _ _ all rising h = absurd all

-- ---- bounds

at_most_least : (z : ℤ) (m : ℕ) (ms : List ℕ) → z ≤ℤ pos m → AllByRecursion (λ k. z ≤ℤ pos k) ms → z ≤ℤ pos (least_of m ms)
at_most_least z m [] h all = h
at_most_least z m (k ∷ ms) h all = at_most_least z (min m k) ms (omega (arith, ints)) all.1

pub at_most_bound : (kind : Kind) (caps : List ℕ) (z : ℤ) → z ≤ℤ highest kind → AllByRecursion (λ k. z ≤ℤ pos k) caps → z ≤ℤ pos (bound (Num kind) caps)
at_most_bound kind caps z h all = grind (arith, at_most_least)

pub at_most_more : (z : ℤ) (m k : ℕ) → z ≤ℤ pos m → m ≤ k → z ≤ℤ pos k
at_most_more _ m k h le = omega (arith, ints)

all_counted : (P : ℕ → Type 0) (by : ℕ) (gs : List Field) → AllByRecursion (λ g. (most : ℕ) → g.count ≡ Counted by most → P most) gs
    → AllByRecursion P (counted by gs)
all_counted P by [] h = tt
all_counted P by (g ∷ gs) h = head _ refl (all_counted P by gs h.1) where
  caps : (c : Bool) (most : ℕ) → (c ≡ true → P most) → AllByRecursion P (counted by gs) → AllByRecursion P ((if c then most ∷ [] else []) ++ counted by gs)
  caps true most p rest = (p refl, rest)
  caps false most p rest = rest

  head : (c : Count) → g.count ≡ c → AllByRecursion P (counted by gs) → AllByRecursion P (counted by (record g { count = c } ∷ gs))
  head (Counted by' most) e rest = caps _ most (λ is. h.0 most (rw (← (eqb-true by' by is)) e)) rest
  head _ e rest = rest

paired : (o n : ℕ → Option ℕ) (c d : Count) (i most : ℕ) → d ≡ Counted i most → same_count o n c d ≡ true → holds_as_much c d ≡ true
    → (by most' : ℕ) × (c ≡ Counted by most') × (same_place (o by) (n i) ≡ true) × (most' ≤ most)
paired o n c d i most e same room = grind arith

module _ (sides : Sides) where
  open sides use {two, numbers, at, below'}
  open two use {a, b, w, o, n}

  -- z fits each present array that field i counts
  abbrev pub FitsArrays : ℤ → ℕ → List Entry → Type 0
  FitsArrays z i fs = AllByRecursion (λ f. (most : ℕ) → f.field.count ≡ Counted i most → z ≤ℤ pos most) fs

  fits_array : (z : ℤ) (i j : ℕ) (e f : Entry) → ((by : ℕ) → same_place (o by) (n j) ≡ true → by ≡ i) → AllByRecursion (λ m. z ≤ℤ pos m) (counted i a.fields)
      → Met sides e f → IsSingle f.field.item f.field.count → (most : ℕ) → f.field.count ≡ Counted j most → z ≤ℤ pos most
  fits_array z i j e f at_i all met single most is =
      elim (decoded two e f met.good) [
        | inl c ↦ let one = rw (covers_unused e.field.item e.field.count f.field.item c.covers).1 at single in let bad = rw is at one in absurd (cc)
        | inr m ↦
            let p = paired o n _ _ j most is m.count m.room in
            at_most_more z p.1 most (counted_at (λ m. z ≤ℤ pos m) i a.fields e.index e.field p.1 met.known.field (rw (at_i p.0 p.3) at p.2) all) p.4
      ]

  fits_arrays : (new : NewFields below' (is_steady_in b) b.fields) (z : ℤ) (i j : ℕ) (es fs : List Entry) → ((by : ℕ) → same_place (o by) (n j) ≡ true → by ≡ i)
      → AllByRecursion (λ m. z ≤ℤ pos m) (counted i a.fields) → AllZip (Met sides) es fs → FitsArrays z j fs
  fits_arrays new z i j [] [] at_i all met = tt
  fits_arrays new z i j (e ∷ es) (f ∷ fs) at_i all met =
      (fits_array z i j e f at_i all met.0 (new f.index f.field met.0.known'.field).single, fits_arrays new z i j es fs at_i all met.1)
  fits_arrays new z i j _ _ at_i all met = absurd met

  each_array : (z : ℤ) (j n i q : ℕ) (gs : List Field) → z ≤ℤ pos n → absent_hold w j n gs ≡ true → FitsArrays z j (present_from (news sides) b.fields w i q gs)
      → AllByRecursion (λ g. (most : ℕ) → g.count ≡ Counted j most → z ≤ℤ pos most) gs
  each_array z j n i q [] le absent h = tt
  each_array z j n i q (g ∷ gs) le absent h =
      by _ refl _ h (λ rest. each_array z j n (suc i) _ gs le (and_parts (has_room w j n g g.count) (absent_hold w j n gs) absent).1 rest)
    where
      by : (pr : Option (Option Formula)) → presence w g.test g.since ≡ pr → (fs : List Entry) → FitsArrays z j (entry_of i q g pr ++ fs)
          → (FitsArrays z j fs → AllByRecursion (λ g. (most : ℕ) → g.count ≡ Counted j most → z ≤ℤ pos most) gs)
          → AllByRecursion (λ g. (most : ℕ) → g.count ≡ Counted j most → z ≤ℤ pos most) (g ∷ gs)
      by None e fs h more = (
        λ most is. at_most_more z n most le (leb-true n most (and_parts (nat_le n most) (absent_hold w j n gs) (rw (is, eq-eqb j j refl, e) at absent)).0),
        more h,
      )
      by (Some rest) e fs h more = (h.0, more h.1)

  -- a number of old that fits, at a pair of numbers, fits all of new's capacities
  pub caps_follow : (kind : Kind) (es : List Entry) (e f : Entry) (z : ℤ) → e.field.item ≡ Num kind
      → ((by : ℕ) → same_place (o by) (n f.index) ≡ true → by ≡ e.index) → Matched two e f
      → z ≤ℤ highest kind → AllByRecursion (λ m. z ≤ℤ pos m) (counted e.index a.fields)
      → AllZip (Met sides) es (present_from (news sides) b.fields w 0 0 b.fields)
      → NewFields below' (is_steady_in b) b.fields → AllByRecursion (λ m. z ≤ℤ pos m) (counted f.index b.fields)
  caps_follow kind es e f z is at_e m high caps met new =
      let arrays = fits_arrays new z _ _ es _ at_e caps met in
      all_counted (λ m. z ≤ℤ pos m) f.index b.fields (each_array z f.index _ 0 0 b.fields (rw is (at_most_bound kind _ z high caps)) m.absent arrays)

-- ---- what well-formedness gives to the laws on pairs of sets

both_true : (a b c d : Bool) → (a ≡ true → c ≡ true) → (b ≡ true → d ≡ true) → (a && b) ≡ true → (c && d) ≡ true
both_true a b c d f g h = grind (arith, and_from)

names_more : (ok ok' : ℕ → Bool) (t : Formula) → ((i : ℕ) → ok i ≡ true → ok' i ≡ true) → names_well ok nobody t ≡ true → names_well ok' nobody t ≡ true
names_more ok ok' (sets.Cell Own i mask rel value) more h = more i h
names_more ok ok' (sets.Cell Parent i mask rel value) more h = h
names_more ok ok' (Not t) more h = names_more ok ok' t more h
names_more ok ok' (And s t) more h = both_true _ _ _ _ (names_more ok ok' s more) (names_more ok ok' t more) h
names_more ok ok' (Or s t) more h = both_true _ _ _ _ (names_more ok ok' s more) (names_more ok ok' t more) h
names_more ok ok' _ more h = refl

earlier_steady : (d : Desc) (k i : ℕ) → is_earlier_in d k i ≡ true → is_steady_in d i ≡ true
earlier_steady d k i h = grind arith

-- what is named well is named as `ok` says, if that has all earlier steady fields
module _ (d : Desc) (k : ℕ) (ok : ℕ → Bool) (has : (i : ℕ) → is_earlier_in d k i ≡ true → ok i ≡ true) where
  test_named : (t : Option Formula) → test_names_well d k t ≡ true → NamedRest ok t
  test_named t h = grind (arith, names_more)

  count_named : (c : Count) → count_names_well d k c ≡ true → CountNamed ok c
  count_named c h = grind arith

counting : (g : Field) (i : Item) → is_counting (Some (record g { item = i })) ≡ true → IsCounting i
counting g i h = grind arith

counter : (all : List Field) (by minimum : ℕ) (o : Option Field) → slice_get all by ≡ o → is_steady minimum o ≡ true → is_counting o ≡ true → Counter all by
counter all by minimum o e h k = search (arith, counting)

count_known : (d : Desc) (k : ℕ) (c : Count) → count_names_well d k c ≡ true → CountKnown d.fields c
count_known d k c h = grind (arith, counter, earlier_steady)

single : (i : Item) (c : Count) → has_good_count i c ≡ true → IsSingle i c
single i c h = grind arith

default_good : (i : Item) (caps : List ℕ) (z : ℤ) → defaults_well i z ≡ true → counts_well caps z ≡ true → ItemDefault i caps z
default_good i caps z h k = grind (arith, within)

-- the rules 4, 5, 6 and 8 at a field
pub record FieldFacts (k : ℕ) (d : Desc) (i : ℕ) (f : Field) : Type 0 where
  pub test : test_names_well d i f.test ≡ true
  pub count : count_names_well d i f.count ≡ true
  pub item : ItemBelow k f.item
  pub single : IsSingle f.item f.count
  pub default : ItemDefault f.item (counted i d.fields) f.default

module _ (k : ℕ) (d : Desc) where
  defaults_good : (i : ℕ) (fs : List Field) → ((j : ℕ) (f : Field) → slice_get fs j ≡ Some f → FieldFacts k d (i + j) f) → DefaultsGood d.fields i fs
  defaults_good i [] h = tt
  defaults_good i (f ∷ fs) h =
      let z : i + 0 ≡ i = omega arith in
      ((rw z at (h 0 f refl)).default, defaults_good (suc i) fs (λ j g e. (let s : i + suc j ≡ suc i + j = omega arith in rw s at (h (suc j) g e))))

  rules_named : (ts : List Formula) → ((i : ℕ) (t : Formula) → slice_get ts i ≡ Some t → AllTrue (validation_rules d t)) → RulesNamed (is_steady_in d) ts
  rules_named [] h = tt
  rules_named (t ∷ ts) h = ((h 0 t refl).1.1.1.0, rules_named ts (λ i u e. h (suc i) u e))

  good_by : (ok : ℕ → Bool) (i : ℕ) (f : Field) → ((j : ℕ) → is_earlier_in d i j ≡ true → ok j ≡ true) → FieldFacts k d i f → NewGood k ok f
  good_by ok i f has q = record { item = q.item; single = q.single; count = count_named d i ok has _ q.count; test = test_named d i ok has f.test q.test }

  desc_good : (rules : List Bool) → Clean k d rules → DescGood k d
  desc_good rules c = record {
    old = λ i f e. let q = facts i f e in record { item = q.item; single = q.single; count = count_known d i _ q.count };
    new = λ i f e. good_by _ i f (λ j h. earlier_steady d i j h) (facts i f e);
    earlier = λ i f e. good_by _ i f (λ j h. h) (facts i f e);
    defaults = defaults_good 0 _ (λ j f e. (let z : 0 + j ≡ j = omega arith in rw z (facts j f e)));
    rules = rules_named _ c.validations;
  } where
    facts : (i : ℕ) (f : Field) → slice_get d.fields i ≡ Some f → FieldFacts k d i f
    facts i f e =
        let g = c.fields i f e in
        let a4 = and_parts (test_names_well d i f.test) (count_names_well d i f.count) g.1.1.1.0 in
        let a6 = and_parts (defaults_well f.item f.default) (counts_well (counted i d.fields) f.default) g.1.1.1.1.1.0 in
        record {
          test = a4.0;
          count = a4.1;
          item = item_below k f.item g.1.1.1.1.0;
          single = single f.item f.count g.1.1.1.1.1.1.1.0;
          default = default_good f.item _ _ a6.0 a6.1;
        }

module _ (set : Set) (well : WellFormed set) where
  pub structs_good : StructsGood set.structs
  structs_good j lt = desc_good j _ _ (struct_clean set well j _ (slice_get-get_or _ j _ lt))

  pub device_good : (i : ℕ) (d : Device) → slice_get set.devices i ≡ Some d → DescGood (length set.structs) d.desc
  device_good i d e = desc_good _ d.desc _ (device_parts set well i d e).0

  pub sub_good : (i j : ℕ) (d : Device) (s : Sub) → slice_get set.devices i ≡ Some d → slice_get d.subs j ≡ Some s → DescGood (length set.structs) s.desc
  sub_good i j d s e f = desc_good _ s.desc _ (sub_clean set well i j d s e f)
