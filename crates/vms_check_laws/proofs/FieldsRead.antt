-- Fields of both sides at one position: they take the same bytes, the newer set reads what the older one writes with the carried numbers,
-- which fit its cells, and what isn't in the bytes is at its default.
use Rattle.vms_check_laws.proofs.Presence
use Presence.{carries_nil, carries_append, carries_filler, aligns_nil, aligns_append, aligns_number, aligns_constant, aligns_filler, covers_unused}
use Presence.{filler_length, at_or_later, Agree, same_there, presence_named, there_here, not_covered, steady, steady_rest, rest_none, one_number, Steady}
use Presence.{holds_left, holds_right, holds_at, fits_left, fits_right, fits_at}
use Rattle.vms_check_laws.proofs.Facade
use Facade.{◌≡◌, inl, inr, ℕ, zero, suc, ◌+◌, ◌*◌, ◌≤◌, Bool, true, false, List, ◌∷◌, length, get_or, Option, None, refl, sym}
use Facade.{eq-eqb, ◌∙◌, arith, ℤ, pos, if◌then◌else◌, ◌++◌, Some, eqb-true, ap, [], length-append, Kind, Item, Num, Equal, Unused, Struct}
use Facade.{Count, Formula, Field, is_there, Slot, no_parent, times, counted, capacity_of, item_cells, field_cells, elements_of, item_slots, Entry, same_rest}
use Facade.{same_count, same_constant, holds_as_much, entry_of, present_from, defaults, carry_item, carry_items, carry_field, Holds, FitsAt, Carries, size_same}
use Facade.{elements_fit, ItemBelow, same_number_is, here, Aligns, FitsCell, AllByRecursion, highest, ◌≤ℤ◌, presence, Cell, cells_from, slots_from}
use Facade.{is_steady_in, is_num, position_from, same_place, carry_next, carry_from, entries_left, field_size, FieldsBelow, desc_cells, AllZip}
use Rattle.vms_check_laws.proofs.PairLists.{when_there, defaults_size, Settled, settled_defaults, settled_empty, settled_append, same_defaults, if_least}
use Rattle.vms_check_laws.proofs.Premises
use Premises.{olds, news, older, newer, kinds_same, slots_at, entries_slots, known_there, Pairs, decoded, CoveredBy, Matched, Sides, CountFits, CountNamed}
use Premises.{OldGood, NewGood, OldFields, NewFields, Reads, covered_slots, Met, PairGood, GoodCells, FitCells, fit_append, fit_defaults}

-- what the older number fits, the newer's cell does
abbrev pub Follows : (i j : Item) → (caps caps' : List ℕ) → Type 0
Follows i j caps caps' =
    (k : Kind) → i ≡ Num k → is_num j ≡ true → (z : ℤ) → z ≤ℤ highest k → AllByRecursion (λ m. z ≤ℤ pos m) caps → AllByRecursion (λ m. z ≤ℤ pos m) caps'

module _ (sides : Sides) where
  open sides use {two, cs, ms, ns, numbers, numbers', at, at', below, below', table}
  open two use {a, b, v, w, o, n}

  abbrev old_size : Item → ℕ
  old_size i = length (item_cells (olds sides) i [] (pos 0))

  abbrev new_size : Item → ℕ
  new_size j = length (item_cells (news sides) j [] (pos 0))

  abbrev fallback : Item → ℤ → List ℤ
  fallback j d = defaults (item_cells (news sides) j [] d)

  -- what is carried of an item, of several, of a field, and of all from one on
  abbrev one_item : Item → Item → ℤ → ℕ → List ℤ
  one_item i j d x = carry_item cs (olds sides) (news sides) numbers i j (fallback j d) x

  abbrev some_items : Item → Item → ℤ → ℕ → ℕ → ℕ → List ℤ
  some_items i j d m most x = carry_items cs (olds sides) (news sides) numbers i j (fallback j d) (old_size i) m most x

  abbrev one_field : Entry → Field → List ℤ
  one_field e g = carry_field cs (olds sides) (news sides) numbers (older sides) v at e g

  abbrev next_field : ℕ → Field → Option (Option Formula) → List Entry → List ℤ
  next_field i g pr es = carry_next cs (olds sides) (news sides) numbers (older sides) v at b.fields i g pr es

  abbrev all_fields : ℕ → List Field → List Entry → List ℤ
  all_fields i gs es = carry_from cs (olds sides) (news sides) numbers (older sides) v w at b.fields i gs es

  abbrev left_of_old : Option (Option Formula) → List Entry → List Entry
  left_of_old pr es = entries_left cs (olds sides) (news sides) numbers pr es

  abbrev cells_at : ℕ → Field → List Cell
  cells_at i g = field_cells (news sides) b.fields i g

  -- ---- how long it is

  item_sized : (i j : Item) (d : ℤ) (k : ℕ) → ItemBelow below' j → length (one_item i j d k) ≡ new_size j
  item_sized i j d k lt = grind (arith, defaults_size)

  items_sized : (i j : Item) (d : ℤ) (m most k : ℕ) → ItemBelow below' j → length (some_items i j d m most k) ≡ most * new_size j
  items_sized i j d m zero k lt = omega arith
  items_sized i j d zero (suc most) k lt = grind (arith, length-append, defaults_size, size_same, items_sized i j d zero most k lt)
  items_sized i j d (suc m) (suc most) k lt = grind (arith, length-append, item_sized, items_sized i j d m most (k + old_size i) lt)

  pub field_sized : (e : Entry) (i : ℕ) (f : Field) → ItemBelow below' f.item → length (one_field e f) ≡ length (cells_at i f)
  field_sized e i f lt = grind (arith, items_sized, field_size, news)

  next_sized : (i : ℕ) (g : Field) (pr : Option (Option Formula)) (es : List Entry) → ItemBelow below' g.item
      → length (next_field i g pr es) ≡ length (cells_at i g)
  next_sized i g pr es lt = grind (arith, field_sized, defaults_size)

  pub fields_sized : (i : ℕ) (gs : List Field) (es : List Entry) → FieldsBelow below' gs
      → length (all_fields i gs es) ≡ length (cells_from (news sides) b.fields i gs)
  fields_sized i [] es lt = refl
  fields_sized i (g ∷ gs) es lt =
      let pr = presence w g.test g.since in
      simp length-append (rw (next_sized i g pr es lt.0, fields_sized (suc i) gs (left_of_old pr es) lt.1))

  -- ---- what follows field by field, each one paired or at its defaults, with what is carried

  pub by_fields : (R : Entry → Entry → Type 0) (P : (i p : ℕ) → List Field → List Entry → List Entry → List ℤ → Type 0)
      → ((i p : ℕ) → P i p [] [] [] [])
      → ((i p : ℕ) (g : Field) (gs : List Field) (es fs : List Entry) (zs : List ℤ) → ItemBelow below' g.item
      → P (suc i) (p + length (cells_at i g)) gs es fs zs → P i p (g ∷ gs) es fs (defaults (cells_at i g) ++ zs))
      → ((i p : ℕ) (g : Field) (gs : List Field) (rest : Option Formula) (e : Entry) (es fs : List Entry) (zs : List ℤ) → ItemBelow below' g.item
      → R e (record { index = i; place = p; field = g; rest = rest }) → P (suc i) (p + length (cells_at i g)) gs es fs zs
      → P i p (g ∷ gs) (e ∷ es) (record { index = i; place = p; field = g; rest = rest } ∷ fs) (one_field e g ++ zs))
      → (i p : ℕ) (gs : List Field) (es : List Entry) → FieldsBelow below' gs → AllZip R es (present_from (news sides) b.fields w i p gs)
      → P i p gs es (present_from (news sides) b.fields w i p gs) (all_fields i gs es)
  by_fields R P none alone paired i p [] [] lt all = none i p
  by_fields R P none alone paired i p [] (e ∷ es) lt all = absurd all
  by_fields R P none alone paired i p (g ∷ gs) es lt all =
      next _ es _ (λ es'. all_fields (suc i) gs es') all (λ es' h. by_fields R P none alone paired (suc i) _ gs es' lt.1 h)
    where
      next : (pr : Option (Option Formula)) (es after : List Entry) (more : List Entry → List ℤ) → AllZip R es (entry_of i p g pr ++ after)
          → ((es' : List Entry) → AllZip R es' after → P (suc i) (p + length (cells_at i g)) gs es' after (more es'))
          → P i p (g ∷ gs) es (entry_of i p g pr ++ after) (next_field i g pr es ++ more (left_of_old pr es))
      next None es after more all go = alone i p g gs es after (more es) lt.0 (go es all)
      next (Some rest) [] after more all go = absurd all
      next (Some rest) (e ∷ es) after more all go = paired i p g gs rest e es after (more es) lt.0 all.0 (go es all.1)

  abbrev pub Linked : List Entry → List Entry → Type 0
  Linked es fs = AllZip (λ e f. Met sides e f × Holds numbers' (at' + f.place) (one_field e f.field)) es fs

  -- the carried numbers are at each pair
  pub linked : (i p : ℕ) (gs : List Field) (es : List Entry) → FieldsBelow below' gs → AllZip (Met sides) es (present_from (news sides) b.fields w i p gs)
      → Holds numbers' (at' + p) (all_fields i gs es) → Linked es (present_from (news sides) b.fields w i p gs)
  linked = by_fields _ (λ i p gs es fs zs. Holds numbers' (at' + p) zs → Linked es fs) (λ i p held. tt)
      (λ i p g gs es fs zs lt more held. more (holds_at (omega (arith, defaults_size (cells_at i g))) (holds_right (defaults (cells_at i g)) held)))
      (λ i p g gs rest e es fs zs lt met more held. (
        (met, holds_left _ held),
        more (holds_at (omega (arith, field_sized e i g lt)) (holds_right (one_field e g) held)),
      ))

  -- ---- numbers that may be named

  -- a field that may be named, and what it is paired with
  pub record NamedPair (e f : Entry) : Type 0 where
    pub plain : Steady f.field
    pub matched : Matched two e f
    pub there_is : is_there e.field.test e.field.since v (older sides) no_parent ≡ true
    pub rest : f.rest ≡ None

  pub named_pair : (e f : Entry) → Met sides e f → is_steady_in b f.index ≡ true → NamedPair e f
  named_pair e f met is = search (arith, steady, decoded, not_covered, steady_rest, known_there, rest_none)

  pair_agrees : (e f : Entry) → Met sides e f → Holds numbers' (at' + f.place) (one_field e f.field) → is_steady_in b f.index ≡ true
      → older sides e.index ≡ newer sides f.index
  pair_agrees e f met held is = grind (arith, named_pair, kinds_same, one_number)

  pub agree_from : (i j p : ℕ) (es fs : List Entry) → Linked es fs → is_steady_in b j ≡ true
      → same_place (position_from p es i) (position_from p fs j) ≡ true → older sides i ≡ newer sides j
  agree_from i j p [] fs linked named h = absurd (cc)
  agree_from i j p (e ∷ es) [] linked named h = absurd linked
  agree_from i j p (e ∷ es) (f ∷ fs) linked named h = elim (at_or_later i j p e f es fs h) [
    | inl here ↦ ap (older sides) (sym here.0) ∙ pair_agrees e f linked.0.0 linked.0.1 (ap (is_steady_in b) here.1 ∙ named) ∙ ap (newer sides) here.1
    | inr later ↦ agree_from i j (suc p) es fs linked.1 named later.1
  ]

  -- ---- one item, several items

  -- what is known of elements of two items that may be paired: as of two descriptions, each fact by what it needs
  pub record Elements (i j : Item) (caps caps' : List ℕ) (d' : ℤ) (xs : List Slot) (ys : ℕ → List Slot) (cells : List Cell) (segment : List ℤ) : Type 0 where
    pub fits : GoodCells (item_cells (news sides) j caps' d') → Follows i j caps caps' → FitCells cells segment
    pub aligned : (y : ℕ) → Aligns numbers xs numbers' (ys y)
    pub reads : same_constant i j ≡ true → (y : ℕ) → Holds numbers' y segment → Reads numbers numbers' xs (ys y) y cells segment

  item_meets : (i j : Item) (caps caps' : List ℕ) (d d' : ℤ) (x : ℕ) → Pairs two below below' i j → FitsAt (item_cells (olds sides) i caps d) numbers x
      → Elements i j caps caps' d' (item_slots ms i caps numbers x) (λ y. item_slots ns j caps' numbers' y) (item_cells (news sides) j caps' d')
      (one_item i j d' x)
  item_meets (Num k) (Num l) caps caps' d d' x pair fits =
      let e = kinds_same k l pair.same in
      let z : x + 0 ≡ x = omega arith in
      let f : FitsCell (record { kind = k; capacities = caps; default = d }) (get_or numbers x (pos 0)) = rw z at (fits.each 0 (omega arith)) in
      rw pair.same (record {
        fits = λ good follow. ((rw e at f.0, follow k refl refl (get_or numbers x (pos 0)) f.0.1 f.1), tt);
        aligned = λ y. aligns_number _ _ x y k l caps caps' e;
        reads = λ constant y held.
            let u : y + 0 ≡ y = omega arith in
            let same : get_or numbers x (pos 0) ≡ get_or numbers' y (pos 0) = sym (rw u at (held.each 0 (omega arith))) in
            record {
              carries = record { spells = ([], rw (same, e), refl); rules = λ h. h };
              settled = record { each = λ c lt. let q : y ≡ y + c = omega arith in inl (rw (← q, eq-eqb y y refl)) };
            };
      })
  item_meets (Equal k z) (Equal l u) caps caps' d d' x pair fits = search (arith, aligns_constant, kinds_same, same_number_is, settled_empty)
  item_meets (Unused m) (Unused r) caps caps' d d' x pair fits =
      let e = filler_length numbers m ∙ eqb-true m r pair.same in
      record {
        fits = λ good follow. tt;
        aligned = λ y. aligns_filler numbers numbers' _ r e;
        reads = λ constant y held. record { carries = carries_filler numbers numbers' _ r e; settled = settled_empty _ y [] [] refl };
      }
  item_meets (Struct i) (Struct j) caps caps' d d' x pair fits =
      let m = (table.rows j pair.low').meets i pair.low pair.structs x fits in
      record { fits = λ good follow. m.fits; aligned = m.aligned; reads = λ constant. m.reads }
  item_meets _ _ caps caps' d d' x pair fits = absurd (cc)

  items_meet : (i j : Item) (caps caps' : List ℕ) (d d' : ℤ) (m most most' p p' step step' x : ℕ) → Pairs two below below' i j → m ≤ most → m ≤ most'
      → FitsAt (times most (λ _. item_cells (olds sides) i caps d) p step) numbers x
      → Elements i j caps caps' d' (times m (item_slots ms i caps numbers) x (old_size i)) (λ y. times m (item_slots ns j caps' numbers') y (new_size j))
      (times most' (λ _. item_cells (news sides) j caps' d') p' step') (some_items i j d' m most' x)
  items_meet i j caps caps' d d' zero most zero p p' step step' x pair le le' fits = search (arith, aligns_nil, carries_nil, settled_empty)
  items_meet i j caps caps' d d' zero most (suc most') p p' step step' x pair le le' fits =
      let more = items_meet i j caps caps' d d' zero most most' p (p' + step') step step' x pair (omega arith) (omega arith) fits in
      let same = same_defaults (news sides) j [] caps' d' in
      let size = defaults_size (item_cells (news sides) j [] d') ∙ size_same _ j [] d' ∙ sym (size_same _ j caps' d') in
      record {
        fits = λ good follow. fit_append _ _ _ _ (rw same (fit_defaults _ good)) (more.fits good follow);
        aligned = λ y. aligns_nil _ _;
        reads = λ constant y held.
            let first : Settled [] y (item_cells (news sides) j caps' d') (fallback j d') = rw same (settled_defaults [] y _) in
            record { carries = carries_nil; settled = settled_append size first refl (more.reads constant _ (holds_right _ held)).settled };
      }
  items_meet i j caps caps' d d' (suc m) (suc most) (suc most') p p' step step' x pair le le' fits =
      let first = item_meets i j caps caps' d d' x pair (fits_left _ fits) in
      let more =
      items_meet i j caps caps' d d' m most most' (p + step) (p' + step') step step' (x + old_size i) pair (omega arith) (omega arith)
      (fits_at (omega (arith, size_same (olds sides) i caps d)) (fits_right (item_cells (olds sides) i caps d) fits)) in
      let sized = item_sized i j d' x pair.low' in
      record {
        fits = λ good follow. fit_append _ _ _ _ (first.fits good follow) (more.fits good follow);
        aligned = λ y. aligns_append numbers numbers' _ _ _ _ (first.aligned y) (more.aligned (y + new_size j));
        reads = λ constant y held.
            let one = first.reads constant y (holds_left _ held) in
            let rest = more.reads constant (y + new_size j) (holds_at (omega arith) (holds_right (one_item i j d' x) held)) in
            record {
              carries = carries_append one.carries rest.carries;
              settled = settled_append (sized ∙ sym (size_same (news sides) j caps' d')) one.settled (omega arith) rest.settled;
            };
      }
  items_meet i j caps caps' d d' (suc m) _ _ p p' step step' x pair le le' fits = absurd (omega arith)

  -- ---- two fields

  abbrev pub there : Entry → Bool
  there e = is_there e.field.test e.field.since v (older sides) no_parent

  -- as many elements as an older field has, if it is there
  abbrev pub count_if : Bool → Entry → ℕ
  count_if t e = if t then elements_of e.field.count (older sides) else 0

  abbrev old_slots : ℕ → Entry → List Slot
  old_slots k e = times k (item_slots ms e.field.item (counted e.index a.fields) numbers) (at + e.place) (old_size e.field.item)

  abbrev new_slots : ℕ → Entry → ℕ → List Slot
  new_slots k f y = times k (item_slots ns f.field.item (counted f.index b.fields) numbers') y (new_size f.field.item)

  elements_room : (c d : Count) → same_count o n c d ≡ true → holds_as_much c d ≡ true → elements_of c (older sides) ≤ capacity_of d
  elements_room c d same room = grind arith

  -- as many elements of one at which rules 7 to 12 hold
  pub matched : (e f : Entry) (t : Bool) → PairGood two e f → Matched two e f → ItemBelow below e.field.item → ItemBelow below' f.field.item
      → FitsAt (field_cells (olds sides) a.fields e.index e.field) numbers (at + e.place)
      → Elements e.field.item f.field.item (counted e.index a.fields) (counted f.index b.fields) f.field.default (old_slots (count_if t e) e)
      (λ y. new_slots (count_if t e) f y) (cells_at f.index f.field)
      (some_items e.field.item f.field.item f.field.default (count_if t e) (capacity_of f.field.count) (at + e.place))
  matched e f t good m low low' fits =
      items_meet _ _ _ _ e.field.default _ _ _ _ 0 0 0 0 _ (record { same = m.item; structs = good.structs; low = low; low' = low' })
      (if_least t _ _ (elements_fit e.field.count (older sides))) (if_least t _ _ (elements_room e.field.count f.field.count m.count m.room)) fits

  -- what is covered has no cells
  pub covered_cells : (e f : Entry) → CoveredBy two e f → length (cells_at f.index f.field) ≡ 0
  covered_cells e f c = rw (field_size (news sides), (covers_unused e.field.item e.field.count f.field.item c.covers).1) (omega arith)

  module _ (ok : ℕ → Bool) where
    -- two present fields at which no rule fails, and what is known of them
    pub record Opposite (e f : Entry) : Type 0 where
      pub met : Met sides e f
      pub open met use *
      pub old : OldGood below (older sides) e.field
      pub new : NewGood below' ok f.field
      pub fits : FitsAt (field_cells (olds sides) a.fields e.index e.field) numbers (at + e.place)
      pub agree : Agree o n ok (older sides) (newer sides)

    same_elements : (c d : Count) → Agree o n ok (older sides) (newer sides) → CountFits (older sides) c → CountNamed ok d → same_count o n c d ≡ true
        → holds_as_much c d ≡ true
        → elements_of c (older sides) ≡ elements_of d (newer sides)
    same_elements c d agree fits named same room = grind arith

    -- what is known of slots on both sides, at two fields where no rule fails: of none, of what is covered, and of as many elements
    pub record PairMeets (e f : Entry) (xs ys : List Slot) : Type 0 where
      pub aligned : Aligns numbers xs numbers' ys
      pub reads : Holds numbers' (at' + f.place) (one_field e f.field)
          → Reads numbers numbers' xs ys (at' + f.place) (cells_at f.index f.field) (one_field e f.field)

    abbrev Both : (e f : Entry) → ℕ → ℕ → Type 0
    Both e f k l = PairMeets e f (old_slots k e) (new_slots l f (at' + f.place))

    covers : (e f : Entry) → Opposite e f → CoveredBy two e f
        → PairMeets e f [] [] × Both e f (elements_of e.field.count (older sides)) (elements_of f.field.count (newer sides))
    covers e f p c =
        let empty = field_sized e f.index f.field p.new.item ∙ covered_cells e f c in
        let s =
        covered_slots ms ns numbers numbers' (older sides) (newer sides) e.field.item e.field.count f.field.item f.field.count (counted e.index a.fields)
        (counted f.index b.fields) (at + e.place) (at' + f.place) (old_size e.field.item) (new_size f.field.item) c.covers p.old.single p.new.single in
        let settled : (xs : List Slot) → Settled xs (at' + f.place) (cells_at f.index f.field) (one_field e f.field) = λ xs. settled_empty xs _ _ _ empty in (
          record { aligned = aligns_nil _ _; reads = λ held. record { carries = carries_nil; settled = settled [] } },
          record {
            aligned = rw s.1 (aligns_filler numbers numbers' _ s.0 s.2);
            reads = λ held. record { carries = rw s.1 (carries_filler numbers numbers' _ s.0 s.2); settled = settled _ };
          },
        )

    items : (e f : Entry) → Opposite e f → Matched two e f → (t : Bool) → there e ≡ t → Both e f (count_if t e) (count_if t e)
    items e f p m t is =
        let q = matched e f t p.good m p.old.item p.new.item p.fits in
        record { aligned = q.aligned (at' + f.place); reads = rw is (q.reads m.constant (at' + f.place)) }

    pub pair_meets : (e f : Entry) → Opposite e f
        → PairMeets e f (slots_at ms a.fields v (older sides) numbers at e.index e.place e.field) (slots_at ns b.fields w (newer sides) numbers' at' f.index f.place f.field)
    pair_meets e f p =
        let there_f = is_there f.field.test f.field.since w (newer sides) no_parent in
        let same : same_rest o n e.rest f.rest ≡ true → there e ≡ there_f = λ h.
        there_here v e.field.test e.field.since e.rest (older sides) no_parent p.known.left
        ∙ same_there o n ok (older sides) (newer sides) no_parent no_parent v w p.agree e.rest f.rest
        (presence_named ok w f.field.test f.field.since f.rest p.new.test p.known'.left) h
        ∙ sym (there_here w f.field.test f.field.since f.rest (newer sides) no_parent p.known'.left) in
        elim (decoded two e f p.good) [
          | inl c ↦ when_there (PairMeets e f) _ _ _ _ (same c.rest) (λ is. (covers e f p c).0) (λ is. (covers e f p c).1)
          | inr m ↦ when_there (PairMeets e f) _ _ _ _ (same m.rest) (items e f p m false)
              (λ is. rw (← (same_elements _ _ p.agree p.old.count p.new.count m.count m.room)) (items e f p m true is))
        ]

    -- all pairs of two descriptions
    module _ (old : OldFields below (older sides) a.fields) (new : NewFields below' ok b.fields) (fits : FitsAt (desc_cells (olds sides) a) numbers at)
        (agree : Agree o n ok (older sides) (newer sides)) where
      met_reads : (e f : Entry) → Met sides e f × Holds numbers' (at' + f.place) (one_field e f.field)
          → Reads numbers numbers' (slots_at ms a.fields v (older sides) numbers at e.index e.place e.field)
          (slots_at ns b.fields w (newer sides) numbers' at' f.index f.place f.field) (at' + f.place) (cells_at f.index f.field) (one_field e f.field)
      met_reads e f h =
          let m = h.0 in
          let old_e = old e.index e.field m.known.field in
          (pair_meets e f (record { met = m; old = old_e; new = new f.index f.field m.known'.field; fits = m.known.fits fits; agree = agree })).reads h.1

      pub fields_carry : (es fs : List Entry) → Linked es fs
          → Carries numbers (entries_slots ms a.fields v (older sides) numbers at es) numbers' (entries_slots ns b.fields w (newer sides) numbers' at' fs)
      fields_carry [] [] all = carries_nil
      fields_carry (e ∷ es) (f ∷ fs) all = carries_append (met_reads e f all.0).carries (fields_carry es fs all.1)
      fields_carry _ _ all = absurd all

      pub fields_settle : (i p : ℕ) (gs : List Field) (es : List Entry) → FieldsBelow below' gs → Linked es (present_from (news sides) b.fields w i p gs)
          → Settled (slots_from ns b.fields w (newer sides) numbers' i (at' + p) gs) (at' + p) (cells_from (news sides) b.fields i gs) (all_fields i gs es)
      fields_settle =
          by_fields _ (λ i p gs es fs zs.
          Settled (slots_from ns b.fields w (newer sides) numbers' i (at' + p) gs) (at' + p) (cells_from (news sides) b.fields i gs) zs)
          (λ i p. settled_empty [] _ [] [] refl)
          (λ i p g gs es fs zs lt more.
          let e : at' + (p + length (cells_at i g)) ≡ (at' + p) + length (cells_at i g) = omega arith in
          settled_append (defaults_size (cells_at i g)) (settled_defaults _ _ _)
          (omega (arith, defaults_size (cells_at i g))) (rw e at more))
          (λ i p g gs rest x es fs zs lt h more.
          let e : at' + (p + length (cells_at i g)) ≡ (at' + p) + length (cells_at i g) = omega arith in
          settled_append (field_sized x i g lt) (met_reads x _ h).settled (omega (arith, field_sized x i g lt)) (rw e at more))
