-- What is carried of a description, cell by cell, and of structures, each by the earlier ones.
use Rattle.vms_check_laws.proofs.{Parts.carrier_at, Counts.item_further, Premises.by_less, Premises.kinds_same, Premises.fields_below}
use Rattle.vms_check_laws.proofs.Facade
use Facade.{◌≡◌, inl, inr, ℕ, zero, suc, ◌+◌, ◌*◌, ◌<◌, ◌≤◌, Bool, true, false, List, ◌∷◌, ◌++◌, length, get_or, replicate}
use Facade.{Option, Some, None, ℤ, pos, refl, sym, ap, ◌∙◌, arith, if◌then◌else◌, slice_get, cases_lt, eq-eqb, or-false, [], Kind, Item, Num}
use Facade.{Struct, Formula, Field, Desc, is_there, Cell, no_cell, Slot, Number, Rule, Meaning, no_meaning, no_parent, times, counted, capacity_of, item_cells}
use Facade.{item_size, field_cells, cells_from, desc_cells, elements_of, item_slots, field_slots, slots_from, desc_slots, numbers_of, has_cell, size_same}
use Facade.{field_size, elements_fit, ItemBelow, FieldsBelow, AreCells, MeanAbove, IsAbove, item_above, field_above, MeanCells, item_are, field_are}
use Facade.{named_inside, skip_long, stands_behind, names_append, cells_in, presence, Entry, entry_of, present_from, same_kind, Carrier, no_carrier, defaults}
use Facade.{carry_item, carry_items, carry_next, carry_from, carry_desc, default_field, entries_left, Pairer, no_pairer, unpaired, item_partners}
use Facade.{array_partners, field_partners, fields_left, partners_from, desc_partners, Set, no_desc, meanings, struct_cells, WellFormed, first_at, struct_slots}
use Facade.{struct_cells_at, meanings_above, meanings_are, cells_first, carriers, carrying, pairer_of, pairers, part_partners, within, get_or_past}
use Facade.{slice_get-get_or, desc_cells_same, first_same, item_below, first_long, Clean, struct_clean, first, carrier_of}
use Rattle.vms_check_laws.proofs.PairLists
use PairLists.{paired_append, same_defaults, defaults_append, paired_none, one_cell, Goes, IsWithin, goes_absent, goes_alone, goes_append}

-- ---- slots are within their cells

within_of : (at : ℕ) (cells : List Cell) (slots : List Slot) → IsAbove at slots → AreCells (replicate at no_cell ++ cells) slots
    → IsWithin at (length cells) slots
within_of at cells slots above are = record {
  in_range = λ c e.
      let low : at ≤ c = elim (cases_lt c at) [ inl lt ↦ let f = above.below c lt in absurd (cc) | inr le ↦ le ] in
      (low, omega (arith, named_inside _ slots c are e, skip_long at cells));
}

module _ (structs : List Pairer) (cs : List Carrier) (ms : List Meaning) (y : List (List Cell)) (numbers : List ℤ) (k k' : ℕ) (above : MeanAbove ms)
    (means : MeanCells ms) where
  abbrev x : List (List Cell)
  x = cells_in ms

  -- what is known of the structures: the older ones with numbers below k and the newer ones with numbers below k'
  abbrev pub StructsGo : Type 0
  StructsGo =
      (i j at at' : ℕ) → i < k → j < k' → Goes (get_or x i []) (get_or y j []) numbers ((get_or ms i no_meaning).slots numbers at) at at'
      (get_or structs i no_pairer j at') (get_or cs j no_carrier i numbers at)

  module _ (go : StructsGo) where
    item_within : (a : Item) (caps : List ℕ) (d : ℤ) (at : ℕ) → IsWithin at (length (item_cells x a caps d)) (item_slots ms a caps numbers at)
    item_within a caps d at = within_of at _ _ (item_above ms above a caps _ at) (item_are ms means a caps d _ at _ (stands_behind at _))

    -- ---- one element that is in the bytes

    -- a pair of numbers
    one_goes : (l m : Kind) (caps caps' : List ℕ) (d d' : ℤ) (at at' : ℕ) (b : Bool) → same_kind l m ≡ b → IsWithin at 1 (Number at l caps ∷ [])
        → Goes (one_cell l caps d) (one_cell m caps' d') numbers (Number at l caps ∷ []) at at'
        ((if b then Some at' else None) ∷ []) (if b then get_or numbers at (pos 0) ∷ [] else d' ∷ [])
    one_goes l m caps caps' d d' at at' true same w = record {
      paired = record {
        long = refl;
        pairs = λ c n e. let o = only c n e in record { r = 0; is = omega arith; inside = omega arith; kind = rw o.0 (kinds_same l m same) };
        once = λ b c n e f. omega (arith, only b n e, only c n f);
      };
      within = w;
      long = refl;
      taken = λ c r e f.
          let c_is : c ≡ 0 = (only c _ e).0 in
          let r_is : r ≡ 0 = omega (arith, only c _ e) in
          let z : at + 0 ≡ at = omega arith in
          rw (c_is, r_is, z);
      other = λ r lt f.
          let z : at + 0 ≡ at = omega arith in
          let has : has_cell (Number at l caps ∷ []) (at + 0) ≡ true = rw (z, eq-eqb at at refl) in
          absurd (cc (has, f 0 (ap (λ i. Some (Some i)) (omega arith))));
    } where
      only : (c n : ℕ) → slice_get (Some at' ∷ []) c ≡ Some (Some n) → (c ≡ 0) × (at' ≡ n)
      only zero n e = (refl, cc)
      only (suc c) n e = cc
    one_goes l m caps caps' d d' at at' false same w = goes_alone 1 refl w refl

    item_goes : (a b : Item) (caps caps' : List ℕ) (d d' : ℤ) (at at' : ℕ) → ItemBelow k a → ItemBelow k' b
        → Goes (item_cells x a caps d) (item_cells y b caps' d') numbers (item_slots ms a caps numbers at) at at' (item_partners structs x y a b at')
        (carry_item cs x y numbers a b (defaults (item_cells y b [] d')) at)
    item_goes (Num l) (Num m) caps caps' d d' at at' lt lt' = one_goes l m caps caps' d d' at at' _ refl (item_within (Num l) caps d at)
    item_goes (Struct i) (Struct j) caps caps' d d' at at' lt lt' = go i j at at' lt lt'
    item_goes a b caps caps' d d' at at' lt lt' = goes_alone _ refl (item_within a caps d at) (same_defaults y b [] caps' d')

    -- a number of elements, of which the first n are in the bytes
    carry_none : (a b : Item) (caps' : List ℕ) (d' : ℤ) (step m at q t : ℕ)
        → carry_items cs x y numbers a b (defaults (item_cells y b [] d')) step 0 m at ≡ defaults (times m (λ _. item_cells y b caps' d') q t)
    carry_none a b caps' d' step zero at q t = refl
    carry_none a b caps' d' step (suc m) at q t = grind (arith, same_defaults, defaults_append, carry_none a b caps' d' step m at (q + t) t)

    array_goes : (a b : Item) (caps caps' : List ℕ) (d d' : ℤ) (most n m at at' p s q t : ℕ) → n ≤ most → ItemBelow k a → ItemBelow k' b
        → Goes (times most (λ _. item_cells x a caps d) p s) (times m (λ _. item_cells y b caps' d') q t) numbers
        (times n (item_slots ms a caps numbers) at (item_size x a)) at at'
        (array_partners structs x y a b most m at') (carry_items cs x y numbers a b (defaults (item_cells y b [] d')) (item_size x a) n m at)
    array_goes a b caps caps' d d' zero zero m at at' p s q t le lt lt' = rw (carry_none a b caps' d' _ m at q t) (goes_absent (paired_none [] _ at' 0 refl))
    array_goes a b caps caps' d d' (suc most) zero zero at at' p s q t le lt lt' =
        goes_absent (paired_append (paired_none _ [] _ _ (sym (size_same x a caps d))) (omega arith)
        (array_goes a b caps caps' d d' most zero zero at at' (p + s) s q t (omega arith) lt lt').paired)
    array_goes a b caps caps' d d' (suc most) zero (suc m) at at' p s q t le lt lt' =
        rw (carry_none a b caps' d' _ _ at q t)
        (goes_absent (paired_append (item_goes a b caps caps' d d' at at' lt lt').paired (omega (arith, sym (size_same y b caps' d')))
        (array_goes a b caps caps' d d' most zero m at (at' + item_size y b) (p + s) s (q + t) t (omega arith) lt lt').paired))
    array_goes a b caps caps' d d' zero (suc n) m at at' p s q t le lt lt' = absurd (omega arith)
    array_goes a b caps caps' d d' (suc most) (suc n) zero at at' p s q t le lt lt' =
        let e : item_size x a ≡ length (item_cells x a caps d) = sym (size_same x a caps d) in
        goes_append (goes_alone {others = []} (item_size x a) e (item_within a caps d at) refl) (omega arith) (omega arith)
        (array_goes a b caps caps' d d' most n zero (at + item_size x a) at' (p + s) s q t (omega arith) lt lt')
    array_goes a b caps caps' d d' (suc most) (suc n) (suc m) at at' p s q t le lt lt' =
        goes_append (item_goes a b caps caps' d d' at at' lt lt') (omega (arith, sym (size_same x a caps d))) (omega (arith, sym (size_same y b caps' d')))
        (array_goes a b caps caps' d d' most n m (at + item_size x a) (at' + item_size y b) (p + s) s (q + t) t (omega arith) lt lt')

    module _ (all all' : List Field) (v w : ℕ) (own : ℕ → ℕ) (at at' : ℕ) where
      -- two present fields of one position, of the older of which so many elements are in the bytes
      abbrev PairGoes : (i i' p p' : ℕ) → (f g : Field) → List Slot → ℕ → Type 0
      PairGoes i i' p p' f g slots n =
          Goes (field_cells x all i f) (field_cells y all' i' g) numbers slots (at + p) (at' + p')
          (array_partners structs x y f.item g.item (capacity_of f.count) (capacity_of g.count) (at' + p'))
          (carry_items cs x y numbers f.item g.item (defaults (item_cells y g.item [] g.default)) (item_size x f.item) n (capacity_of g.count) (at + p))

      pair_goes : (i i' p p' : ℕ) (f g : Field) → ItemBelow k f.item → ItemBelow k' g.item
          → PairGoes i i' p p' f g (field_slots ms all v own numbers i (at + p) f)
          (if is_there f.test f.since v own no_parent then elements_of f.count own else 0)
      pair_goes i i' p p' f g lt lt' = by_there (is_there f.test f.since v own no_parent) where
        by_there : (b : Bool) → PairGoes i i' p p' f g
            (if b then times (elements_of f.count own) (item_slots ms f.item (counted i all) numbers) (at + p) (item_size x f.item) else [])
            (if b then elements_of f.count own else 0)
        by_there true = array_goes f.item g.item _ _ _ _ _ _ _ _ _ 0 0 0 0 (elements_fit f.count own) lt lt'
        by_there false = array_goes f.item g.item _ _ _ _ _ 0 _ _ _ 0 0 0 0 (omega arith) lt lt'

      -- ---- all fields from one on, on each side

      abbrev olds : ℕ → ℕ → List Field → List Entry
      olds i p fs = present_from x all v i p fs

      abbrev news : ℕ → ℕ → List Field → List Entry
      news i' p' gs = present_from y all' w i' p' gs

      abbrev size_at : ℕ → Field → ℕ
      size_at i f = length (field_cells x all i f)

      abbrev size_at' : ℕ → Field → ℕ
      size_at' i g = length (field_cells y all' i g)

      abbrev slots_on : ℕ → ℕ → List Field → List Slot
      slots_on i p fs = slots_from ms all v own numbers i (at + p) fs

      abbrev carry_on : ℕ → List Field → List Entry → List ℤ
      carry_on i' gs es = carry_from cs x y numbers own v w at all' i' gs es

      abbrev partners_on : List Field → List Entry → List (Option ℕ)
      partners_on fs es = partners_from structs x y v at' fs es

      abbrev GoFrom : (i i' p p' : ℕ) → (fs gs : List Field) → Type 0
      GoFrom i i' p p' fs gs =
          Goes (cells_from x all i fs) (cells_from y all' i' gs) numbers (slots_on i p fs) (at + p) (at' + p') (partners_on fs (news i' p' gs))
          (carry_on i' gs (olds i p fs))

      abbrev RestGoes : ℕ → ℕ → List Field → Type 0
      RestGoes i p fs = (i' p' : ℕ) (gs : List Field) → FieldsBelow k' gs → GoFrom i i' p p' fs gs

      -- a field of the newer side only, before more
      new_alone : (i' p p' : ℕ) (g : Field) (gs : List Field) {cells : List Cell} {slots : List Slot} {partners : List (Option ℕ)} {segment : List ℤ}
          → Goes cells (cells_from y all' (suc i') gs) numbers slots (at + p) (at' + (p' + size_at' i' g)) partners segment
          → Goes cells (cells_from y all' i' (g ∷ gs)) numbers slots (at + p) (at' + p') partners (default_field cs x y numbers all' i' g ++ segment)
      new_alone i' p p' g gs h = goes_append (goes_absent (paired_none [] _ _ 0 refl)) (omega arith) (omega arith) h

      no_olds : (i i' p p' : ℕ) (gs : List Field) → GoFrom i i' p p' [] gs
      no_olds i i' p p' [] = goes_absent (paired_none [] [] _ 0 refl)
      no_olds i i' p p' (g ∷ gs) =
          let h = new_alone i' p p' g gs (no_olds i (suc i') p (p' + size_at' i' g) gs) in
          elim (presence w g.test g.since) as (λ o. Goes [] (cells_from y all' i' (g ∷ gs)) numbers [] (at + p) (at' + p') []
          (carry_next cs x y numbers own v at all' i' g o [] ++ carry_on (suc i') gs (entries_left cs x y numbers o []))) [ None ↦ h | Some rest ↦ h ]

      -- a field of the older side only, before more
      old_alone : (i p p' : ℕ) (f : Field) (fs : List Field) {others : List Cell} {partners : List (Option ℕ)} {segment : List ℤ}
          → Goes (cells_from x all (suc i) fs) others numbers (slots_on (suc i) (p + size_at i f) fs) (at + (p + size_at i f)) (at' + p') partners segment
          → Goes (cells_from x all i (f ∷ fs)) others numbers (slots_on i p (f ∷ fs)) (at + p) (at' + p')
          (unpaired (capacity_of f.count * item_size x f.item) ++ partners) segment
      old_alone i p p' f fs h =
          let u : at + (p + size_at i f) ≡ (at + p) + size_at i f = omega arith in
          let within = within_of _ _ _ (field_above ms above all v own _ i _ f) (field_are ms means all v own _ i _ f _ (stands_behind _ _)) in
          goes_append (goes_alone {others = []} (capacity_of f.count * item_size x f.item) (sym (field_size x all i f)) within refl) refl
          (omega arith) (rw u at h)

      -- a present field of the older side, before more
      module _ (i p : ℕ) (f : Field) (fs : List Field) (left : Option Formula) (lt : ItemBelow k f.item) (more : RestGoes (suc i) (p + size_at i f) fs) where
        abbrev entry : Entry
        entry = record { index = i; place = p; field = f; rest = left }

        abbrev later : List Entry
        later = olds (suc i) (p + size_at i f) fs

        abbrev With : ℕ → ℕ → List Field → List Entry → List ℤ → Type 0
        With i' p' gs es segment =
            Goes (cells_from x all i (f ∷ fs)) (cells_from y all' i' gs) numbers (slots_on i p (f ∷ fs)) (at + p) (at' + p')
            (field_partners structs x y f (Some left) es at' ++ partners_on fs (fields_left structs x y (Some left) es)) segment

        with_present : (i' p' : ℕ) (gs : List Field) → FieldsBelow k' gs → With i' p' gs (news i' p' gs) (carry_on i' gs (entry ∷ later))
        with_present i' p' [] below = old_alone i p p' f fs (more i' p' [] tt)
        with_present i' p' (g ∷ gs) below = by_new _ (with_present (suc i') (p' + size_at' i' g) gs below.1) where
          by_new : (o : Option (Option Formula))
              → With (suc i') (p' + size_at' i' g) gs (news (suc i') (p' + size_at' i' g) gs) (carry_on (suc i') gs (entry ∷ later))
              → With i' p' (g ∷ gs) (entry_of i' p' g o ++ news (suc i') (p' + size_at' i' g) gs)
              (carry_next cs x y numbers own v at all' i' g o (entry ∷ later) ++ carry_on (suc i') gs (entries_left cs x y numbers o (entry ∷ later)))
          by_new None h = new_alone i' p p' g gs h
          by_new (Some rest) h =
              let u : at + (p + size_at i f) ≡ (at + p) + size_at i f = omega arith in
              goes_append (pair_goes i i' p p' f g lt below.0) refl (omega arith) (rw u at (more (suc i') (p' + size_at' i' g) gs below.1))

      with_field : (i p : ℕ) (f : Field) (fs : List Field) → ItemBelow k f.item → RestGoes (suc i) (p + size_at i f) fs → RestGoes i p (f ∷ fs)
      with_field i p f fs lt more i' p' gs below = by_old (presence v f.test f.since) where
        by_old : (o : Option (Option Formula))
            → Goes (cells_from x all i (f ∷ fs)) (cells_from y all' i' gs) numbers (slots_on i p (f ∷ fs)) (at + p) (at' + p')
            (field_partners structs x y f o (news i' p' gs) at' ++ partners_on fs (fields_left structs x y o (news i' p' gs)))
            (carry_on i' gs (entry_of i p f o ++ olds (suc i) (p + size_at i f) fs))
        by_old None = old_alone i p p' f fs (more i' p' gs below)
        by_old (Some left) = with_present i p f fs left lt more i' p' gs below

      fields_go : (i p : ℕ) (fs : List Field) → FieldsBelow k fs → RestGoes i p fs
      fields_go i p [] lt = λ i' p' gs below. no_olds i i' p p' gs
      fields_go i p (f ∷ fs) lt = with_field i p f fs lt.0 (fields_go (suc i) (p + size_at i f) fs lt.1)

    -- a description: its fields, and its validations, which have no cell
    pub desc_goes : (v w : ℕ) (a b : Desc) (at at' : ℕ) → FieldsBelow k a.fields → FieldsBelow k' b.fields
        → Goes (desc_cells x a) (desc_cells y b) numbers (desc_slots ms a v numbers at) at at' (desc_partners structs x y v w a b at')
        (carry_desc cs x y numbers v w a b at)
    desc_goes v w a b at at' lt lt' =
        let z : at + 0 ≡ at = omega arith in
        let z' : at' + 0 ≡ at' = omega arith in
        more_rules _ (rw (z, z') at (fields_go a.fields b.fields v w (numbers_of x a numbers at) at at' 0 0 _ lt 0 0 b.fields lt'))
      where
        more_rules : {slots : List Slot} (b' : Bool)
            → Goes (desc_cells x a) (desc_cells y b) numbers slots at at' (desc_partners structs x y v w a b at') (carry_desc cs x y numbers v w a b at)
            → Goes (desc_cells x a) (desc_cells y b) numbers (slots ++ Rule b' ∷ []) at at' (desc_partners structs x y v w a b at')
            (carry_desc cs x y numbers v w a b at)
        more_rules {slots} b' h = record {
          paired = h.paired;
          within = record { in_range = λ c e. h.within.in_range c (sym (same c) ∙ e) };
          long = h.long;
          taken = λ c r e f. h.taken c r e (sym (same (at + c)) ∙ f);
          other = λ r l f. h.other r l (λ c e. sym (same (at + c)) ∙ f c e);
        } where
          same : (c : ℕ) → has_cell (slots ++ Rule b' ∷ []) c ≡ has_cell slots c
          same c = names_append slots _ c ∙ or-false (has_cell slots c)

-- ---- the cells of a structure

pub below_of : (k : ℕ) (d : Desc) (rules : _) → Clean k d rules → FieldsBelow k d.fields
below_of k d rules c = fields_below k _ (λ i f e. item_below k f.item (c.fields i f e).1.1.1.1.0)

module _ (set : Set) (well : WellFormed set) where
  pub struct_below : (j : ℕ) → j < length set.structs → FieldsBelow j (get_or set.structs j no_desc).fields
  struct_below j lt = below_of j _ _ (struct_clean set well j (get_or set.structs j no_desc) (slice_get-get_or _ j _ lt))

  pub struct_is : (j : ℕ) → get_or (struct_cells set) j [] ≡ desc_cells (struct_cells set) (get_or set.structs j no_desc)
  struct_is j =
      let ds = set.structs in
      let k = length ds in
      elim (cases_lt j k) [
        | inl lt ↦
            first_at desc_cells ds [] k j lt
            ∙ desc_cells_same j (first desc_cells ds j) (first desc_cells ds k) (λ i l. first_same desc_cells ds [] j k i (omega arith) l) (get_or ds j no_desc)
            (struct_below j lt)
        | inr le ↦ rw (get_or_past ds j _ le) (get_or_past _ j [] (omega (arith, first_long desc_cells ds k)))
      ]

-- a number above those of all structures that fields use
fields_further : (j k : ℕ) (fs : List Field) → j ≤ k → FieldsBelow j fs → FieldsBelow k fs
fields_further j k [] le h = tt
fields_further j k (f ∷ fs) le h = (item_further j k f.item le h.0, fields_further j k fs le h.1)

item_some : (i : Item) → (k : ℕ) × ItemBelow k i
item_some (Struct j) = (suc j, omega arith)
item_some _ = (0, tt)

some_below : (fs : List Field) → (k : ℕ) × FieldsBelow k fs
some_below [] = (0, tt)
some_below (f ∷ fs) =
    let p = item_some f.item in
    let q = some_below fs in
    (p.0 + q.0, (item_further p.0 _ f.item (omega arith) p.1, fields_further q.0 _ fs (omega arith) q.1))

module _ (old new : Set) (good_old : WellFormed old) (good_new : WellFormed new) (numbers : List ℤ) where
  abbrev ds : List Desc
  ds = old.structs

  abbrev es : List Desc
  es = new.structs

  abbrev ms : List Meaning
  ms = meanings ds (length ds)

  abbrev xs : List (List Cell)
  xs = cells_in ms

  abbrev y : List (List Cell)
  y = struct_cells new

  abbrev pairers_to : ℕ → List Pairer
  pairers_to m = pairers xs y ds es m

  abbrev carriers_to : ℕ → List Carrier
  carriers_to l = carriers xs y ds es l

  abbrev Go : ℕ → ℕ → Type 0
  Go m l = StructsGo (pairers_to m) (carriers_to l) ms y numbers m l (meanings_above ds _) (meanings_are ds _)

  abbrev GoesAt : ℕ → ℕ → Type 0
  GoesAt i l = (j at at' : ℕ) → j < l
      → Goes (get_or xs i []) (get_or y j []) numbers ((get_or ms i no_meaning).slots numbers at) at at'
      (pairer_of (pairers_to i) xs y es (get_or ds i no_desc) j at') (get_or (carriers_to l) j no_carrier i numbers at)

  last : (m : ℕ) → m < length ds → ((l : ℕ) → l ≤ length es → Go m l) → (l : ℕ) → l ≤ length es → GoesAt m l
  last m lt h l le j at at' lt' =
      let below = struct_below old good_old m lt in
      rw (carrier_at xs y ds es l j lt', struct_slots ds _ m _ at lt below, struct_cells_at ds _ m lt below, struct_is new good_new j)
      (desc_goes _ _ ms y _ m j (meanings_above ds _) (meanings_are ds _) (h j (omega arith)) _ _ (get_or ds m no_desc) (get_or es j no_desc) at at' below
      (struct_below new good_new j (omega arith)))

  pairer_at : (m i : ℕ) → i < m → get_or (pairers_to m) i no_pairer ≡ pairer_of (pairers_to i) xs y es (get_or ds i no_desc)
  pairer_at m i lt = grind (arith, first_at)

  go_to : (m : ℕ) → m ≤ length ds → (l : ℕ) → l ≤ length es → Go m l
  go_to m le l le' i j at at' lt lt' =
      rw (pairer_at m i lt)
      (by_less (λ i. i < length ds → (l : ℕ) → l ≤ length es → GoesAt i l)
      (λ m before less. last m less (λ l le i j at at' lt lt'. rw (pairer_at m i lt) (before i lt (omega arith) l le j at at' lt'))) m i lt
      (omega arith) l le' j at at' lt')

  -- of all structures: of a number that the newer set doesn't have there is nothing
  go_all : (k : ℕ) → StructsGo (pairers_to (length ds)) (carriers_to (length es)) ms y numbers (length ds) k (meanings_above ds _) (meanings_are ds _)
  go_all k i j at at' lt lt' = elim (cases_lt j (length es)) [
    | inl less ↦ go_to _ (omega arith) _ (omega arith) i j at at' lt less
    | inr le ↦
        let below = struct_below old good_old i lt in
        let d = get_or ds i no_desc in
        rw (
          pairer_at _ i lt,
          struct_slots ds _ i _ at lt below,
          struct_cells_at ds _ i lt below,
          struct_is new good_new j,
          get_or_past es j _ le,
          get_or_past (carriers_to (length es)) j no_carrier (omega (arith, first_long (λ earlier d. carrier_of earlier xs y ds d) es (length es))),
        )
        (desc_goes _ (carriers_to 0) ms y numbers i 0 (meanings_above ds _) (meanings_are ds _) (λ i j at at' lt lt'. absurd (omega arith)) d.version
        no_desc.version d no_desc at at' below tt)
  ]

  -- two descriptions at one version
  pub part_goes : (v : ℕ) (a b : Desc) (at at' : ℕ) → FieldsBelow (length ds) a.fields
      → Goes (desc_cells (struct_cells old) a) (desc_cells (struct_cells new) b) numbers (desc_slots ms a v numbers at) at at'
      (part_partners old new v a b at') (carrying old new numbers v a b at)
  part_goes v a b at at' lt =
      let below = some_below b.fields in
      rw (← (cells_first ds _)) (desc_goes _ _ ms y _ _ _ (meanings_above ds _) (meanings_are ds _) (go_all below.0) v v a b at at' lt below.1)
