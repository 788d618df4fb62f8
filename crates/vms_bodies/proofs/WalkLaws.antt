-- What the structural reader takes and leaves, by the slots that it goes through: whatever each
-- slot keeps, the whole keeps.
use Rattle.vms_bodies.proofs.Facade
use Facade.{◌≡◌, ◌≢◌, ◌>>=◌, ℕ, zero, suc, ◌+◌, ◌*◌, ◌≤◌, List, ◌∷◌, ◌++◌, length, get_or, map, take, drop, Ok, Err}
use Facade.{IfOk, ℤ, refl, sym, ap, ◌∙◌, arith, append_assoc, append-nil, length-append, Bool, true, false, if◌then◌else◌, nat_lt, slice_set}
use Facade.{get_or-set_other, [], mul-le-mul_right, Kind, Item, Num, Equal, Unused, Struct, width, value_of, Reason, is_bad_bool, Field, Desc, is_there, Slot}
use Facade.{Number, Rule, Meaning, no_meaning, no_desc, item_slots, item_size, times, field_slots, slots_from, desc_slots, desc_cells, cells_from, field_cells}
use Facade.{place_of, numbers_of, elements_of, capacity_of, counted, all_hold, no_parent, first, meanings, Taken, Progress, Refusal, Taker, no_taker, takers}
use Facade.{cells_of, take_value, take_slot, take_item, take_items, take_field, take_fields, take_desc, check_rules, refuse, on, if_whole, IsSound, AreSound}
use Facade.{IsSoundField, AreSoundFields, IsEarlier, field_size, elements_fit, ◌-◌, drop-drop}
use Rattle.vms_bodies.proofs.Places.{IsAbove, MeanAbove, above_none, above_append, above_less, items_above, fields_above, meanings_above, SameBelow, same_refl}
use Rattle.vms_bodies.proofs.Places.{same_less, same_trans, own_same, there_same, elements_same, hold_same, place_next, place_end, if_so}
pub use Rattle.vms_bodies.proofs.Places.{place_first}
use Rattle.vms_spec.specs.declared.Reason.TheVariants as reasons

-- ---- what one slot gives

-- the numbers after a slot is taken
abbrev pub Sets : Slot → List ℤ → List ℤ → Type 0
Sets (Number c kind capacities) old new = (z : ℤ) × (new ≡ slice_set old c z)
Sets slot old new = new ≡ old

-- it is refused at its offset, or some bytes are taken
module _ (P : Taken → Type 0) (p : Progress) (bad : (reason : Reason) (n : ℕ) → P (refuse p reason n)) where
  pub whole_gives : (n : ℕ) (t : Taken) → (nat_lt (length p.rest) n ≡ false → P t) → P (if_whole n p t)
  whole_gives n t h = if_so P _ _ _ (λ _. bad reasons.Truncated (length p.rest)) h

  pub value_gives : (kind : Kind) (reason : Reason) (fails : ℤ → Bool) (put : ℤ → List ℤ)
      → (nat_lt (length p.rest) (width kind) ≡ false → is_bad_bool kind (take (width kind) p.rest) ≡ false → fails
      (value_of kind (take (width kind) p.rest)) ≡ false
      → P (on (width kind) (put (value_of kind (take (width kind) p.rest))) p)) → P (take_value kind reason fails put p)
  value_gives kind reason fails put h = grind (arith, whole_gives, if_so)

  pub slot_gives : (slot : Slot) → ((n : ℕ) (numbers : List ℤ) → Sets slot p.numbers numbers → P (on n numbers p)) → P (Ok p) → P (take_slot slot p)
  slot_gives slot h same = grind (arith, value_gives, whole_gives)

pub record Keeps (cell : ℕ) (n : List ℤ) (t : Taken) : Type 0 where
  pub kept : IfOk t (λ q. SameBelow cell n q.numbers)

-- a slot whose cell, if it has one, isn't below this one
abbrev pub IsFrom : ℕ → Slot → Type 0
IsFrom cell (Number c kind capacities) = cell ≤ c
IsFrom cell slot = Unit {0}

sets_from : (cell : ℕ) (slot : Slot) (old new : List ℤ) → IsFrom cell slot → Sets slot old new → SameBelow cell old new
sets_from cell (Number c kind capacities) old new le s = record { same = λ k h. let ne : k ≢ c = omega arith in rw (s.1, get_or-set_other) refl }
sets_from cell _ old new le s = rw s (same_refl cell old)

-- the numbers below its cell are final
pub slot_keeps : (cell : ℕ) (slot : Slot) (p : Progress) → IsFrom cell slot → Keeps cell p.numbers (take_slot slot p)
slot_keeps cell slot p from = search (arith, slot_gives, sets_from, same_refl)

-- ---- tools

pub zero_plus : (i : ℕ) → 0 + i ≡ i
zero_plus i = omega arith

pub drop_next : {A : Type 0} (xs : List A) (i : ℕ) (x : A) (more : List A) → drop i xs ≡ x ∷ more → drop (suc i) xs ≡ more
drop_next [] (suc i) x more e = cc
drop_next (y ∷ ys) (suc i) x more e = drop_next ys i x more e
drop_next _ _ x more e = cc

-- ---- readings by slots

module _ (total : List ℤ → List Slot) (Holds : ℕ → List Slot → Progress → Type 0) (Fails : Refusal → Type 0) where
  -- once the numbers below a cell are final, the slots are those done and those that remain
  pub record Left (cell : ℕ) (p : Progress) (done : List Slot) (left : List ℤ → List Slot) : Type 0 where
    pub split : (m : List ℤ) → SameBelow cell p.numbers m → total m ≡ done ++ left m
    pub holds : Holds cell done p

  abbrev pub Gives : ℕ → List Slot → Taken → Type 0
  Gives cell done (Ok q) = Holds cell done q
  Gives cell done (Err e) = Fails e

  abbrev pub IsOther : Slot → Type 0
  IsOther (Number c kind capacities) = ⊥
  IsOther slot = Unit {0}

  -- no slot that remains has a number below the cell
  abbrev Up : ℕ → (List ℤ → List Slot) → Type 0
  Up cell left = (m : List ℤ) → IsAbove cell (left m)

  -- what each slot keeps if it is the next, at its cell and with these slots done before it
  pub record Keeping : Type 0 where
    pub less : (cell further : ℕ) (done : List Slot) (left : List ℤ → List Slot) (p : Progress) → cell ≤ further → ((m : List ℤ) → IsAbove further (left m))
        → Left cell p done left → Holds further done p
    pub number : (cell : ℕ) (kind : Kind) (capacities : List ℕ) (done : List Slot) (left : List ℤ → List Slot) (p : Progress)
        → ((m : List ℤ) → IsAbove (cell + 1) (left m)) → Left cell p done (λ m. Number cell kind capacities ∷ left m)
        → Gives (cell + 1) (done ++ Number cell kind capacities ∷ []) (take_slot (Number cell kind capacities) p)
    pub other : (cell : ℕ) (slot : Slot) (done : List Slot) (left : List ℤ → List Slot) (p : Progress) → IsOther slot
        → ((m : List ℤ) → IsAbove cell (left m)) → Left cell p done (λ m. slot ∷ left m) → Gives cell (done ++ slot ∷ []) (take_slot slot p)

  left_ap : {cell : ℕ} {p : Progress} {done : List Slot} {left left' : List ℤ → List Slot}
      → ((m : List ℤ) → SameBelow cell p.numbers m → left m ≡ left' m) → Left cell p done left → Left cell p done left'
  left_ap {done = done} e l = record { split = λ m s. l.split m s ∙ ap (λ xs. done ++ xs) (e m s); holds = l.holds }

  abbrev pub ComesTo : ℕ → (List ℤ → List Slot) → Taken → Type 0
  ComesTo cell left (Err e) = Fails e
  ComesTo cell left (Ok q) = (done : List Slot) × Left cell q done left

  -- if this was taken, these slots remain
  pub record Comes (cell : ℕ) (left : List ℤ → List Slot) (t : Taken) : Type 0 where
    pub comes : ComesTo cell left t

  then_comes : {cell further : ℕ} {left left' : List ℤ → List Slot} (t : Taken) (f : Progress → Taken) → Comes cell left t
      → ((q : Progress) (done : List Slot) → Left cell q done left → Comes further left' (f q)) → Comes further left' (t >>= f)
  then_comes t f c h = search arith

  slot_comes : {cell further : ℕ} {slot : Slot} {done : List Slot} {left : List ℤ → List Slot} {p : Progress} (t : Taken) → cell ≤ further
      → Left cell p done (λ m. slot ∷ left m) → Keeps cell p.numbers t → Gives further (done ++ slot ∷ []) t → Comes further left t
  slot_comes (Err e) le l k x = record { comes = x }
  slot_comes (Ok q) le l k x =
      record { comes = (_, record { split = λ m s. rw append_assoc (l.split m (same_trans _ _ _ _ k.kept (same_less _ _ _ _ le s))); holds = x }) }

  other_from : (cell : ℕ) (slot : Slot) → IsOther slot → IsFrom cell slot
  other_from cell slot o = grind arith

  -- ---- structures

  pub record TakesSlots (t : Taker) (m : Meaning) : Type 0 where
    pub takes : (cell end : ℕ) (p : Progress) (done : List Slot) (left : List ℤ → List Slot) → end ≡ cell + length t.cells → Up end left
        → Left cell p done (λ n. m.slots n cell ++ left n) → Comes end left (t.takes cell p)

  abbrev pub Pairs : List Taker → List Meaning → Type 0
  Pairs [] [] = Unit {0}
  Pairs (t ∷ ts) (m ∷ ms) = (t.cells ≡ m.cells) × TakesSlots t m × Pairs ts ms
  Pairs _ _ = ⊥

  pairs_cells : (ts : List Taker) (ms : List Meaning) → Pairs ts ms → map (λ (m : Meaning). m.cells) ms ≡ cells_of ts
  pairs_cells [] [] p = refl
  pairs_cells (t ∷ ts) (m ∷ ms) p = grind (arith, pairs_cells ts ms p.2)
  pairs_cells _ _ p = absurd p

  pairs_append : (ts : List Taker) (ms : List Meaning) (t : Taker) (m : Meaning) → Pairs ts ms → (t.cells ≡ m.cells) → TakesSlots t m
      → Pairs (ts ++ t ∷ []) (ms ++ m ∷ [])
  pairs_append [] [] t m p e h = (e, h, tt)
  pairs_append (x ∷ ts) (y ∷ ms) t m p e h = (p.0, p.1, pairs_append ts ms t m p.2 e h)
  pairs_append _ _ t m p e h = absurd p

  cells_get : (ts : List Taker) (j : ℕ) → (get_or ts j no_taker).cells ≡ get_or (cells_of ts) j []
  cells_get (t ∷ ts) (suc j) = cells_get ts j
  cells_get _ _ = refl

  module _ (w : Keeping) where
    left_less : {cell further : ℕ} {p : Progress} {done : List Slot} {left : List ℤ → List Slot} → cell ≤ further → Up further left → Left cell p done left
        → Left further p done left
    left_less le up l = record { split = λ m s. l.split m (same_less _ _ _ _ le s); holds = w.less _ _ _ _ _ le up l }

    comes_less : {cell further : ℕ} {left : List ℤ → List Slot} (t : Taken) → cell ≤ further → Up further left → Comes cell left t → Comes further left t
    comes_less (Err e) le up c = record { comes = c.comes }
    comes_less (Ok q) le up c = record { comes = (c.comes.0, left_less le up c.comes.1) }

    stay : {cell further : ℕ} {left : List ℤ → List Slot} {done : List Slot} {p : Progress} → cell ≤ further → Up further left → Left cell p done left
        → Comes further left (Ok p)
    stay le up l = record { comes = (_, left_less le up l) }

    -- a slot without a cell, which is this one whatever comes
    one_other : {cell further : ℕ} (slot : Slot) {done : List Slot} {left : List ℤ → List Slot} {p : Progress} → cell ≤ further → IsOther slot → Up further left
        → Left cell p done (λ m. slot ∷ left m) → Comes further left (take_slot slot p)
    one_other {cell} {further} slot {done} {left} {p} le o up l =
        comes_less _ le up (slot_comes {cell = cell} {further = cell} (take_slot slot p) (omega arith) l (slot_keeps cell slot p (other_from cell slot o))
        (w.other cell slot done left p o (λ m. above_less cell further _ le (up m)) l))

    pair_at : (ts : List Taker) (ms : List Meaning) (j : ℕ) → Pairs ts ms → TakesSlots (get_or ts j no_taker) (get_or ms j no_meaning)
    pair_at [] [] j p = record { takes = λ cell end p done left e up l. stay (omega arith) up l }
    pair_at (t ∷ ts) (m ∷ ms) zero p = p.1
    pair_at (t ∷ ts) (m ∷ ms) (suc j) p = pair_at ts ms j p.2
    pair_at _ _ j p = absurd p

    module _ (ts : List Taker) (ms : List Meaning) (pairs : Pairs ts ms) (ab : MeanAbove ms) where
      item_comes : (item : Item) (caps : List ℕ) (cell end : ℕ) {p : Progress} {done : List Slot} {left : List ℤ → List Slot}
          → end ≡ cell + item_size (cells_of ts) item
          → Up end left → Left cell p done (λ m. item_slots ms item caps m cell ++ left m) → Comes end left (take_item ts item caps cell p)
      item_comes (Num kind) caps cell end {p} {done} {left} e up l =
          comes_less _ (omega arith) up (slot_comes {cell = cell} {further = cell + 1} (take_slot (Number cell kind caps) p) (omega arith) l
          (slot_keeps cell (Number cell kind caps) p (omega arith))
          (w.number cell kind caps done left p (λ m. above_less (cell + 1) end _ (omega arith) (up m)) l))
      item_comes (Equal kind z) caps cell end e up l = one_other _ (omega arith) tt up l
      item_comes (Unused n) caps cell end e up l = one_other _ (omega arith) tt up l
      item_comes (Struct j) caps cell end e up l = (pair_at _ _ j pairs).takes cell end _ _ _ (omega (arith, ap length (cells_get ts j))) up l

      items_comes : (item : Item) (caps : List ℕ) (n cell end : ℕ) {p : Progress} {done : List Slot} {left : List ℤ → List Slot}
          → end ≡ cell + n * item_size (cells_of ts) item → Up end left
          → Left cell p done (λ m. times n (item_slots ms item caps m) cell (item_size (cells_of ts) item) ++ left m)
          → Comes end left (take_items ts item caps (item_size (cells_of ts) item) n cell p)
      items_comes item caps zero cell end e up l = stay (omega arith) up l
      items_comes item caps (suc n) cell end {p} {left = left} e up l =
          let size = item_size (cells_of ts) item in
          then_comes _ (λ q. take_items ts item caps size n (cell + size) q) (item_comes _ _ _ _ refl
          (λ m. above_append _ _ _ (items_above _ ab _ _ _ _ _ _) (above_less _ _ _ (omega arith) (up m)))
          (left_ap (λ m s. append_assoc (item_slots ms item caps m cell) _ (left m)) l))
          (λ q done' l'. items_comes item caps n (cell + size) end (grind arith) up l')

      if_comes : {cell end : ℕ} (b : Bool) (t : Taken) {p : Progress} {done : List Slot} (slots : List ℤ → List Slot) {left : List ℤ → List Slot} → cell ≤ end
          → Up end left → (Left cell p done (λ m. slots m ++ left m) → Comes end left t) → Left cell p done (λ m. (if b then slots m else []) ++ left m)
          → Comes end left (if b then t else Ok p)
      if_comes true t slots le up h l = h l
      if_comes false t slots le up h l = stay le up l

      module _ (d : Desc) (v base : ℕ) where
        abbrev own : List ℤ → ℕ → ℕ
        own m = numbers_of (map (λ (m : Meaning). m.cells) ms) d m base

        -- whether a field is there, and how many elements it has, by the numbers before it
        field_comes : (i cell end : ℕ) (f : Field) {p : Progress} {done : List Slot} {left : List ℤ → List Slot}
            → IsSoundField d.fields i f → cell ≡ place_of (cells_of ts) d.fields 0 base d.fields i
            → end ≡ cell + length (field_cells (cells_of ts) d.fields i f) → Up end left
            → Left cell p done (λ m. field_slots ms d.fields v (own m) m i cell f ++ left m) → Comes end left (take_field ts d v base i cell f p)
        field_comes i cell end f {p} sound here e up l =
            let cs = cells_of ts in
            let old = numbers_of cs d p.numbers base in
            let size = item_size cs f.item in
            let caps = counted i d.fields in
            let n = elements_of f.count old in
            let b = is_there f.test f.since v old no_parent in
            let le : n * size ≤ capacity_of f.count * size = mul-le-mul_right {m = n} {n = capacity_of f.count} size (elements_fit f.count old) in
            let more : cell + n * size ≤ end = omega (arith, field_size cs d.fields i f) in
            if_comes b (take_items ts f.item caps size n cell p) (λ m. times n (item_slots ms f.item caps m) cell size) (omega arith) up
            (λ l. comes_less _ more up (items_comes f.item caps n cell _ refl (λ m. above_less _ end _ more (up m)) l))
            (left_ap (λ m s.
            let now = numbers_of cs d m base in
            let h : (j : ℕ) → IsEarlier d.fields i j → now j ≡ old j = λ j x. own_same cs d base i cell j p.numbers m here s x in
            rw (pairs_cells _ _ pairs, there_same _ i v _ old now h f.test sound.test, elements_same d.fields i old now h f.count sound.count)) l)

        fields_comes : (i cell end : ℕ) (fs : List Field) {p : Progress} {done : List Slot} {left : List ℤ → List Slot}
            → AreSoundFields d.fields i fs → cell ≡ place_of (cells_of ts) d.fields 0 base d.fields i → drop i d.fields ≡ fs
            → end ≡ cell + length (cells_from (cells_of ts) d.fields i fs) → Up end left
            → Left cell p done (λ m. slots_from ms d.fields v (own m) m i cell fs ++ left m) → Comes end left (take_fields ts d v base i cell fs p)
        fields_comes i cell end [] sound here is e up l = stay (omega arith) up l
        fields_comes i cell end (f ∷ fs) {p} {left = left} sound here is e up l =
            let cs = cells_of ts in
            let next = cell + (length (field_cells cs d.fields i f)) in
            let e' : end ≡ next + length (cells_from cs d.fields (suc i) fs) =
            omega (arith, length-append (field_cells cs d.fields i f) (cells_from cs d.fields (suc i) fs)) in
            let there : next ≡ place_of cs d.fields 0 base d.fields (suc i) =
            omega (arith, place_next cs d.fields 0 base d.fields i f fs is, ap (λ k. length (field_cells cs d.fields k f)) (zero_plus i)) in
            then_comes _ (λ q. take_fields ts d v base (suc i) next fs q) (field_comes i cell next f sound.0 here refl
            (λ m. above_append next _ (left m) (fields_above ms ab d.fields v (own m) m (suc i) next fs) (above_less next end _ (omega arith) (up m)))
            (left_ap (λ m s.
            ap (λ cs. (field_slots ms d.fields v (own m) m i cell f
            ++ slots_from ms d.fields v (own m) m (suc i) (cell + length (field_cells cs d.fields i f)) fs) ++ left m) (pairs_cells ts ms pairs)
            ∙ append_assoc (field_slots ms d.fields v (own m) m i cell f) _ (left m)) l))
            (λ q done' l'. fields_comes (suc i) next end fs sound.1 there (drop_next _ i f fs is) e' up l')

        -- reading a description's slots is taking it
        pub desc_comes : (end : ℕ) {p : Progress} {done : List Slot} {left : List ℤ → List Slot} → IsSound d
            → end ≡ base + length (desc_cells (cells_of ts) d) → Up end left
            → Left base p done (λ m. desc_slots ms d v m base ++ left m) → Comes end left (take_desc ts d v base p)
        unfolding take_desc
        desc_comes end {p} {left = left} sound e up l =
            let cs = cells_of ts in
            let last : end ≡ place_of cs d.fields 0 base d.fields (length d.fields) = omega (arith, place_end cs d.fields 0 base d.fields) in
            then_comes (take_fields ts d v base 0 base d.fields p) (check_rules ts d v base)
            (fields_comes 0 base end d.fields sound.fields (sym (place_first cs d.fields 0 base d.fields)) refl e
            (λ m. above_append end (Rule (all_hold d.validate v (own m)) ∷ []) (left m) (record { below = λ c lt. refl }) (up m))
            (left_ap (λ m s. append_assoc (slots_from ms d.fields v (own m) m 0 base d.fields) _ (left m)) l))
            (λ q done' l'.
            one_other (Rule (all_hold d.validate v (numbers_of cs d q.numbers base))) {left = left} (omega arith) tt up
            (left_ap {left = λ m. Rule (all_hold d.validate v (own m)) ∷ left m} (λ m s.
            rw (
              pairs_cells ts ms pairs,
              hold_same d.fields (length d.fields) v (numbers_of cs d q.numbers base) (numbers_of cs d m base)
                  (λ j x. own_same cs d base (length d.fields) end j q.numbers m last s x) _ sound.validate,
            )) l'))

    pub pairs_first : (ds : List Desc) → AreSound ds → (k : ℕ) → k ≤ length ds → Pairs (takers ds k) (meanings ds k)
    unfolding first
    pairs_first ds sound zero le = tt
    pairs_first ds sound (suc k) le =
        let pairs : Pairs (takers ds k) (meanings ds k) = pairs_first ds sound k (omega arith) in
        let d = get_or ds k no_desc in
        pairs_append _ _ _ _ pairs (rw (sym (pairs_cells _ _ pairs)))
        (record { takes = λ cell end p done left e up l. desc_comes _ _ pairs (meanings_above ds k) d d.version cell end (sound k (omega arith)) e up l })

    -- the same with all structures of a set, from the front on
    pub set_desc_comes : (ds : List Desc) → AreSound ds → (d : Desc) (v base : ℕ) (p : Progress) → IsSound d
        → ((m : List ℤ) → total m ≡ desc_slots (meanings ds (length ds)) d v m base) → Holds base [] p
        → Comes (base + length (desc_cells (cells_of (takers ds (length ds))) d)) (λ m. []) (take_desc (takers ds (length ds)) d v base p)
    set_desc_comes ds structs d v base p sound is h =
        desc_comes _ _ (pairs_first ds structs _ (omega arith)) (meanings_above ds _) d v base _ sound refl
        (λ m. above_none _) (record { split = λ m s. is m ∙ sym (append-nil (desc_slots (meanings ds (length ds)) d v m base)); holds = h })

-- ---- what the reader of a body leaves: the bytes from its offset on, also if a unit is invalid

module _ (at : ℕ) (input : List ℕ) where
  -- these bytes are the rest of the input at this offset
  pub record IsLeft (place : ℕ) (rest : List ℕ) : Type 0 where
    pub from : at ≤ place
    pub is : rest ≡ drop (place - at) input

  -- those after what was taken, or from the offending unit on
  abbrev pub Leaves : Taken → Type 0
  Leaves (Ok q) = IsLeft q.place q.rest
  Leaves (Err e) = IsLeft e.place e.rest

  further : (n : ℕ) (p : Progress) → IsLeft p.place p.rest → IsLeft (p.place + n) (drop n p.rest)
  further n p h =
      let sum : p.place + n - at ≡ p.place - at + n = omega (arith, h.from) in
      record { from = omega (arith, h.from); is = rw (sum, h.is) (drop-drop n (p.place - at) input) }

  slot_left : (slot : Slot) (p : Progress) → IsLeft p.place p.rest → Leaves (take_slot slot p)
  slot_left slot p h = slot_gives Leaves _ (λ reason n. h) _ (λ n numbers s. further n p h) h

  abbrev Holds : ℕ → List Slot → Progress → Type 0
  Holds cell done p = IsLeft p.place p.rest

  abbrev Fails : Refusal → Type 0
  Fails e = IsLeft e.place e.rest

  module _ (total : List ℤ → List Slot) where
    gives : (cell : ℕ) (done : List Slot) (t : Taken) → Leaves t → Gives total Holds Fails cell done t
    gives cell done t h = grind arith

    keeping : Keeping total Holds Fails
    keeping = record {
      less = λ cell further done left p le up l. l.holds;
      number = λ cell kind caps done left p up l. gives (cell + 1) (done ++ Number cell kind caps ∷ []) _ (slot_left (Number cell kind caps) p l.holds);
      other = λ cell slot done left p o up l. gives cell (done ++ slot ∷ []) _ (slot_left slot p l.holds);
    }

    leaves : (cell : ℕ) (left : List ℤ → List Slot) (t : Taken) → ComesTo total Holds Fails cell left t → Leaves t
    leaves cell left t c = grind arith

-- from the front of the input on
pub desc_leaves : (structs : List Desc) (sound : AreSound structs) (d : Desc) (v base : ℕ) (p : Progress)
    → IsSound d → Leaves p.place p.rest (take_desc (takers structs (length structs)) d v base p)
desc_leaves structs sound d v base p good =
    let total : List ℤ → List Slot = λ m. desc_slots (meanings structs (length structs)) d v m base in
    let none : p.place - p.place ≡ 0 = omega arith in
    let c = set_desc_comes total _ (Fails p.place p.rest) (keeping p.place p.rest total) _ sound _ _ _ p good (λ m. refl)
    (record { from = omega arith; is = rw none refl }) in
    leaves p.place p.rest total _ (λ m. []) _ c.comes
