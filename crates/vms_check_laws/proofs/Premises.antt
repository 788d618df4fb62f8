-- What is known of fields and structures on both sides: present fields paired by position, numbers that fit cells, and premises.
use Rattle.vms_check_laws.proofs.{Presence.from_zero, PairLists.Settled}
use Rattle.vms_check_laws.proofs.Facade
use Facade.{AllZip-long, ◌≡◌, ◌⊎◌, inl, inr, ℕ, Bool, true, List, ◌∷◌, Option, None, and_parts, [], zero, suc, ◌+◌, ◌<◌, ◌++◌}
use Facade.{length, get_or, refl, arith, ℤ, pos, ◌≤◌, Some, slice_get, eqb-true, ◌∙◌, get_or_from_slice_get, Item, Desc, counted, in_field, Part}
use Facade.{Entry, same_rest, same_count, same_item, same_constant, is_covered, holds_as_much, absent_hold, bound, Comparer, failing_pair, pair_rules}
use Facade.{pair_structs, compare_fields, passes, ItemBelow, or_else_none, uncovered_rules, Cell, no_cell, times, defaults, FitsCell, cells_in, Equal, Unused}
use Facade.{Count, Counted, Formula, Field, Meaning, no_meaning, names_well, nobody, is_one, no_comparer, Carrier, no_carrier, Holds, FitsAt, Carries, Aligns}
use Facade.{FieldsBelow, Slot, is_earlier_in, Num, Filler, Fixed, Kind, One, cells_from, elements_of, entry_of, field_cells, here, is_there, item_slots}
use Facade.{kind_of, presence, present_from, residue, same_kind, slots_from, width, zeroed, no_field, field_slots, numbers_of, place_of, AllByRecursion, AllZip}
use Facade.{flat_map}
use Rattle.vms_check_laws.proofs.Presence.{if_is, NamedRest, constant_length, numbers_length, presence_there, fits_at, fits_left, fits_right, one_on, at_first}
use Rattle.vms_spec.specs.Images.{FitCells as AreFit}
use Rattle.vms_kinds.specs.contracts.Kind.{the_type as kind_type}
use denote.Enum.Bare.{same_true}

-- two descriptions at their versions, by the rules of their structures: which parts they are, and where their numbers are among the fields
pub record Two : Type 0 where
  pub ks : List Comparer
  pub a : Desc
  pub b : Desc
  pub v : ℕ
  pub w : ℕ
  pub part : Part
  pub part' : Part
  pub o : ℕ → Option ℕ
  pub n : ℕ → Option ℕ

module _ (two : Two) where
  open two use {ks, a, b, v, w, part, part', o, n}

  pub record PairGood (e f : Entry) : Type 0 where
    pub rules : failing_pair (pair_rules ks a b v w part part' o n e f) (in_field part e.index) (in_field part' f.index) ≡ None
    pub structs : pair_structs ks a b v w part part' o n e.field.item f.field.item ≡ None

  -- two items that may be paired
  pub record Pairs (below below' : ℕ) (i j : Item) : Type 0 where
    pub same : same_item i j ≡ true
    pub structs : pair_structs ks a b v w part part' o n i j ≡ None
    pub low : ItemBelow below i
    pub low' : ItemBelow below' j

  -- new's unused bytes over old's constant or numbers, or rules 7 to 12
  pub record Matched (e f : Entry) : Type 0 where
    pub count : same_count o n e.field.count f.field.count ≡ true
    pub item : same_item e.field.item f.field.item ≡ true
    pub rest : same_rest o n e.rest f.rest ≡ true
    pub room : holds_as_much e.field.count f.field.count ≡ true
    pub absent : absent_hold w f.index (bound e.field.item (counted e.index a.fields)) b.fields ≡ true
    pub constant : same_constant e.field.item f.field.item ≡ true

  pub record CoveredBy (e f : Entry) : Type 0 where
    pub covers : is_covered e.field.item e.field.count f.field.item ≡ true
    pub rest : same_rest o n e.rest f.rest ≡ true

  pub decoded : (e f : Entry) → PairGood e f → CoveredBy e f ⊎ Matched e f
  decoded e f g =
      let room = holds_as_much e.field.count f.field.count in
      let absent = absent_hold w f.index (bound e.field.item (counted e.index a.fields)) b.fields in
      elim (if_is (λ (r : List (ℕ × Bool)). failing_pair r (in_field part e.index) (in_field part' f.index))
      (is_covered e.field.item e.field.count f.field.item) _ _ g.rules) [
        | inl c ↦ inl (record { covers = c.0; rest = (passes ((9, _) ∷ []) _ _ c.1).0 })
        | inr m ↦
            let r = passes (uncovered_rules ks a b v w part part' o n e f) _ _ m.1 in
            let both = and_parts room absent r.1.1.1.1.0 in
            inr (record { count = r.0; item = r.1.0; rest = r.1.1.0; room = both.0; absent = both.1; constant = r.1.1.1.1.1.0 })
      ]

-- ---- numbers that fit cells, one by one

abbrev pub FitCells : List Cell → List ℤ → Type 0
FitCells xs zs = AllZip FitsCell xs zs

pub fit_length : (xs : List Cell) (zs : List ℤ) → FitCells xs zs → length zs ≡ length xs
fit_length xs zs h = AllZip-long FitsCell xs zs h

fit_each : (xs : List Cell) (zs : List ℤ) → FitCells xs zs → (c : ℕ) → c < length xs → FitsCell (get_or xs c no_cell) (get_or zs c (pos 0))
fit_each [] zs h c lt = absurd (omega arith)
fit_each (x ∷ xs) [] h c lt = absurd h
fit_each (x ∷ xs) (z ∷ zs) h zero lt = h.0
fit_each (x ∷ xs) (z ∷ zs) h (suc c) lt = fit_each xs zs h.1 c (omega arith)

pub are_fit : (xs : List Cell) (zs : List ℤ) → FitCells xs zs → AreFit xs zs
are_fit xs zs h = record { long = fit_length xs zs h; fits = λ c lt. fit_each xs zs h c lt }

pub fit_append : (xs ys : List Cell) (zs us : List ℤ) → FitCells xs zs → FitCells ys us → FitCells (xs ++ ys) (zs ++ us)
fit_append [] ys [] us h k = k
fit_append (x ∷ xs) ys (z ∷ zs) us h k = (h.0, fit_append xs ys zs us h.1 k)
fit_append _ ys _ us h k = absurd h

pub fit_none : (xs : List Cell) (zs : List ℤ) → length xs ≡ 0 → length zs ≡ length xs → FitCells xs zs
fit_none [] [] e f = tt
fit_none _ _ e f = absurd (omega arith)

-- the default of each cell fits it
abbrev pub GoodCells : List Cell → Type 0
GoodCells cells = AllByRecursion (λ c. FitsCell c c.default) cells

pub fit_defaults : (cells : List Cell) → GoodCells cells → FitCells cells (defaults cells)
fit_defaults [] h = tt
fit_defaults (c ∷ cells) h = (h.0, fit_defaults cells h.1)

pub good_append : (xs ys : List Cell) → GoodCells xs → GoodCells ys → GoodCells (xs ++ ys)
good_append [] ys h k = k
good_append (x ∷ xs) ys h k = (h.0, good_append xs ys h.1 k)

pub good_times : (n : ℕ) (xs : List Cell) (at step : ℕ) → GoodCells xs → GoodCells (times n (λ _. xs) at step)
good_times zero xs at step h = tt
good_times (suc n) xs at step h = good_append xs _ h (good_times n xs (at + step) step h)

-- ---- what fields and structures on both sides need

-- what follows of a number from all below it holds of each
pub by_less : (P : ℕ → Type 0) → ((k : ℕ) → ((j : ℕ) → j < k → P j) → P k) → (k j : ℕ) → j < k → P j
by_less P step zero j lt = absurd (omega arith)
by_less P step (suc k) j lt = step j (λ i less. by_less P step k i (omega arith))

-- what the newer set reads of slots of the older one, from cell y on: their bytes, and its defaults where they aren't in the bytes
pub record Reads (numbers numbers' : List ℤ) (xs ys : List Slot) (y : ℕ) (cells : List Cell) (segment : List ℤ) : Type 0 where
  pub carries : Carries numbers xs numbers' ys
  pub settled : Settled ys y cells segment

-- what is known of two descriptions at which no rule fails: the older one's slots, the newer one's from each cell on, and what is carried
pub record Meets (numbers numbers' : List ℤ) (xs : List Slot) (ys : ℕ → List Slot) (cells : List Cell) (segment : List ℤ) : Type 0 where
  pub fits : FitCells cells segment
  pub aligned : (y : ℕ) → Aligns numbers xs numbers' (ys y)
  pub reads : (y : ℕ) → Holds numbers' y segment → Reads numbers numbers' xs (ys y) y cells segment

-- what is known of the newer structure j, with its comparer and its carrier
pub record Row (ms ns : List Meaning) (numbers numbers' : List ℤ) (below j : ℕ) (rule : Comparer) (carrier : Carrier) : Type 0 where
  pub sized : (i p : ℕ) → length (carrier i numbers p) ≡ length (get_or (cells_in ns) j [])
  pub good : GoodCells (get_or (cells_in ns) j [])
  pub meets : (i : ℕ) → i < below → rule i ≡ None → (x : ℕ) → FitsAt (get_or (cells_in ms) i []) numbers x
      → Meets numbers numbers' ((get_or ms i no_meaning).slots numbers x) (λ y. (get_or ns j no_meaning).slots numbers' y) (get_or (cells_in ns) j [])
      (carrier i numbers x)

-- what is known of the structures below a number
pub record Table (ks : List Comparer) (cs : List Carrier) (ms ns : List Meaning) (numbers numbers' : List ℤ) (below below' : ℕ) : Type 0 where
  pub rows : (j : ℕ) → j < below' → Row ms ns numbers numbers' below j (get_or ks j no_comparer) (get_or cs j no_carrier)

-- both sides with their numbers: the older's from `at` on, and the newer's from `at'` on
pub record Sides : Type 0 where
  pub two : Two
  pub cs : List Carrier
  pub ms : List Meaning
  pub ns : List Meaning
  pub numbers : List ℤ
  pub numbers' : List ℤ
  pub at : ℕ
  pub at' : ℕ
  pub below : ℕ
  pub below' : ℕ
  pub table : Table two.ks cs ms ns numbers numbers' below below'

-- the cells of each side's structures, and the numbers of its fields
module _ (sides : Sides) where
  open sides use {two, ms, ns, numbers, numbers', at, at'}

  abbrev pub olds : List (List Cell)
  olds = cells_in ms

  abbrev pub news : List (List Cell)
  news = cells_in ns

  abbrev pub older : ℕ → ℕ
  older k = numbers_of olds two.a numbers at k

  abbrev pub newer : ℕ → ℕ
  newer k = numbers_of news two.b numbers' at' k

-- constants and unused bytes are single
abbrev pub IsSingle : Item → Count → Type 0
IsSingle (Equal kind z) count = is_one count ≡ true
IsSingle (Unused n) count = is_one count ≡ true
IsSingle _ count = Unit {0}

abbrev pub CountFits : (ℕ → ℕ) → Count → Type 0
CountFits own (Counted by most) = own by ≤ most
CountFits own _ = Unit {0}

abbrev pub CountNamed : (ℕ → Bool) → Count → Type 0
CountNamed ok (Counted by most) = ok by ≡ true
CountNamed ok _ = Unit {0}

-- what old's fields need
pub record OldGood (below : ℕ) (own : ℕ → ℕ) (f : Field) : Type 0 where
  pub item : ItemBelow below f.item
  pub single : IsSingle f.item f.count
  pub count : CountFits own f.count

-- what new's fields need
pub record NewGood (below : ℕ) (ok : ℕ → Bool) (f : Field) : Type 0 where
  pub item : ItemBelow below f.item
  pub single : IsSingle f.item f.count
  pub count : CountNamed ok f.count
  pub test : NamedRest ok f.test

abbrev pub RulesNamed : (ℕ → Bool) → List Formula → Type 0
RulesNamed ok [] = Unit {0}
RulesNamed ok (t ∷ ts) = (names_well ok nobody t ≡ true) × RulesNamed ok ts

abbrev pub OldFields : ℕ → (ℕ → ℕ) → List Field → Type 0
OldFields below own fs = (j : ℕ) (f : Field) → slice_get fs j ≡ Some f → OldGood below own f

abbrev pub NewFields : ℕ → (ℕ → Bool) → List Field → Type 0
NewFields below ok fs = (j : ℕ) (f : Field) → slice_get fs j ≡ Some f → NewGood below ok f

-- each field names only earlier ones
abbrev pub NamesEarlier : ℕ → Desc → Type 0
NamesEarlier below b = (j : ℕ) (f : Field) → slice_get b.fields j ≡ Some f → NewGood below (is_earlier_in b j) f

pub fields_below : (k : ℕ) (fs : List Field) → ((j : ℕ) (f : Field) → slice_get fs j ≡ Some f → ItemBelow k f.item) → FieldsBelow k fs
fields_below k [] h = tt
fields_below k (f ∷ fs) h = (h 0 f refl, fields_below k fs (λ j g e. h (suc j) g e))

-- defaults are in range, and within what they count
abbrev pub ItemDefault : Item → List ℕ → ℤ → Type 0
ItemDefault (Num kind) caps d = FitsCell (record { kind = kind; capacities = caps; default = d }) d
ItemDefault _ caps d = Unit {0}

abbrev pub DefaultsGood : List Field → ℕ → List Field → Type 0
DefaultsGood all i [] = Unit {0}
DefaultsGood all i (f ∷ fs) = ItemDefault f.item (counted i all) f.default × DefaultsGood all (suc i) fs

-- what is covered is one filler, as long as the slots that it covers
module _ (ms ns : List Meaning) (numbers numbers' : List ℤ) (own own' : ℕ → ℕ) where
  pub covered_slots : (i : Item) (c : Count) (j : Item) (d : Count) (caps caps' : List ℕ) (x y step step' : ℕ) → is_covered i c j ≡ true → IsSingle i c
      → IsSingle j d → (r : ℕ) × (times (elements_of d own') (item_slots ns j caps' numbers') y step' ≡ Filler r ∷ [])
      × (length (zeroed numbers (times (elements_of c own) (item_slots ms i caps numbers) x step)) ≡ r)
  covered_slots (Equal k z) One (Unused r) One caps caps' x y step step' covers single single' =
      (r, refl, constant_length numbers k z ∙ eqb-true (width k) r covers)
  covered_slots (Num k) One (Unused r) One caps caps' x y step step' covers single single' =
      (r, refl, numbers_length _ k caps 1 x step ∙ omega (arith, eqb-true (width k) r covers))
  covered_slots (Num k) (Fixed p) (Unused r) One caps caps' x y step step' covers single single' = grind (arith, numbers_length, eqb-true)
  covered_slots _ _ _ _ caps caps' x y step step' covers single single' = absurd (cc)

-- ---- the present fields of a description: their slots, and what is known of each

pub kinds_same : (k l : Kind) → same_kind k l ≡ true → k ≡ l
kinds_same = same_true kind_type tt

-- ---- slots by entries

module _ (structs : List Meaning) (all : List Field) (v : ℕ) (own : ℕ → ℕ) (numbers : List ℤ) (base : ℕ) where
  -- those of field i, whose cells begin p after the first
  abbrev pub slots_at : ℕ → ℕ → Field → List Slot
  slots_at i p f = field_slots structs all v own numbers i (base + p) f

  abbrev pub entries_slots : List Entry → List Slot
  entries_slots es = flat_map (λ e. slots_at e.index e.place e.field) es

  entry_slots : (i p : ℕ) (f : Field) (pr : Option (Option Formula)) (es : List Entry) → presence v f.test f.since ≡ pr
      → slots_at i p f ++ entries_slots es ≡ entries_slots (entry_of i p f pr ++ es)
  entry_slots i p f pr es h = grind (arith, presence_there)

  pub slots_entries : (i p : ℕ) (fs : List Field)
      → slots_from structs all v own numbers i (base + p) fs ≡ entries_slots (present_from (cells_in structs) all v i p fs)
  slots_entries i p [] = refl
  slots_entries i p (f ∷ fs) =
      let len = length (field_cells (cells_in structs) all i f) in
      let e : (base + p) + len ≡ base + (p + len) = omega arith in
      rw (e, slots_entries (suc i) (p + len) fs) (entry_slots i p f _ _ refl)

-- ---- what is known of entries

module _ (structs : List Meaning) (all : List Field) (v : ℕ) (numbers : List ℤ) (base : ℕ) where
  abbrev Whole : Type 0
  Whole = FitsAt (cells_from (cells_in structs) all 0 all) numbers base

  abbrev place : ℕ → ℕ
  place k = place_of (cells_in structs) all 0 base all k

  abbrev pub own_of : ℕ → ℕ
  own_of k = residue (width (kind_of (get_or all k no_field).item)) (get_or numbers (place k) (pos 0))

  pub record IsKnown (e : Entry) : Type 0 where
    pub field : slice_get all e.index ≡ Some e.field
    pub number : own_of e.index ≡ residue (width (kind_of e.field.item)) (get_or numbers (base + e.place) (pos 0))
    pub left : presence v e.field.test e.field.since ≡ Some e.rest
    pub fits : Whole → FitsAt (field_cells (cells_in structs) all e.index e.field) numbers (base + e.place)

  -- a field of which nothing of the test is left is there
  pub known_there : (e : Entry) → IsKnown e → e.rest ≡ None → (own parent : ℕ → ℕ) → is_there e.field.test e.field.since v own parent ≡ true
  known_there e known plain own parent = grind (arith, presence_there)

  abbrev pub AreKnown : List Entry → Type 0
  AreKnown es = AllByRecursion IsKnown es

  entry_known : (i p : ℕ) (f : Field) (pr : Option (Option Formula)) (es : List Entry) → presence v f.test f.since ≡ pr → slice_get all i ≡ Some f
      → place i ≡ base + p → (Whole → FitsAt (field_cells (cells_in structs) all i f) numbers (base + p)) → AreKnown es → AreKnown (entry_of i p f pr ++ es)
  entry_known i p f None es h field here fits known = known
  entry_known i p f (Some rest) es h field here fits known =
      (record { field = field; number = rw (get_or_from_slice_get all i f _ field, here); left = h; fits = fits }, known)

  pub entries_known : (i p : ℕ) (fs : List Field) → ((k : ℕ) → slice_get all (i + k) ≡ slice_get fs k)
      → ((k : ℕ) → place (i + k) ≡ place_of (cells_in structs) all i (base + p) fs k)
      → (Whole → FitsAt (cells_from (cells_in structs) all i fs) numbers (base + p)) → AreKnown (present_from (cells_in structs) all v i p fs)
  entries_known i p [] items places fits = tt
  entries_known i p (f ∷ fs) items places fits =
      let len = length (field_cells (cells_in structs) all i f) in
      let e : (base + p) + len ≡ base + (p + len) = omega arith in
      entry_known i p f _ _ refl (at_first (slice_get all) i items) (at_first place i places) (λ whole. fits_left _ (fits whole))
      (entries_known (suc i) (p + len) fs (one_on (slice_get all) i items) (λ k. one_on place i places k ∙ rw e)
      (λ whole. fits_at (omega arith) (fits_right (field_cells (cells_in structs) all i f) (fits whole))))

  pub all_known : AreKnown (present_from (cells_in structs) all v 0 0 all)
  all_known = grind (arith, entries_known, from_zero, fits_at)

-- ---- the pairs of two descriptions at which no rule fails

module _ (sides : Sides) where
  open sides use {two, ms, ns, numbers, numbers', at, at'}
  open two use {ks, a, b, v, w, part, part', o, n}

  pub record Met (e f : Entry) : Type 0 where
    pub good : PairGood two e f
    pub known : IsKnown ms a.fields v numbers at e
    pub known' : IsKnown ns b.fields w numbers' at' f

  pub all_met : (es fs : List Entry) → compare_fields ks a b v w part part' o n es fs ≡ None → AreKnown ms a.fields v numbers at es
      → AreKnown ns b.fields w numbers' at' fs → AllZip Met es fs
  all_met [] [] h known known' = tt
  all_met (e ∷ es) (f ∷ fs) h known known' =
      let p = or_else_none _ _ h in
      let q = or_else_none _ _ p.1 in
      (record { good = record { rules = p.0; structs = q.0 }; known = known.0; known' = known'.0 }, all_met es fs q.1 known.1 known'.1)
  all_met _ _ h known known' = cc
