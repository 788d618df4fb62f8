-- Fields and descriptions at one front. If no rule fails at two fields and the numbers of earlier fields agree, the
-- newer set reads the same number of bytes for its field as the older set wrote for its own. A number that tests
-- and counts may name is the same then. This is repeated position by position. Also a position at which two
-- constants differ, which the newer set can't read.
use Rattle.vms_check_laws.proofs.FieldsRead.{pair_meets, named_pair}
use Rattle.vms_check_laws.proofs.Facade
use Facade.{◌≡◌, inl, inr, ℕ, zero, suc, ◌+◌, ◌<◌, ◌≤◌, Bool, true, List, ◌∷◌, ◌++◌, length, get_or, Some, None, sym, ap}
use Facade.{◌∙◌, code_read, big_number, arith, ℤ, pos, if◌then◌else◌, ◌⊎◌, nat_lt, take, refl, slice_get, and_parts, ltb-true}
use Facade.{eq-or-lt_of_le, [], Kind, Item, Equal, width, residue, code, Count, One, is_steady_in, is_num, is_one, is_earlier_in, Slot, Number, times, counted}
use Facade.{elements_of, item_slots, kind_of, Spells, zeroed, length-code, Entry, same_count, same_item, FitsAt, Aligns, desc_cells, AllZip, eq-eqb}
use Facade.{position_from, same_place}
use Rattle.vms_check_laws.proofs.Premises.{olds, older, newer, kinds_same, slots_at, IsKnown, entries_slots, AreKnown, known_there, Two, PairGood, Sides}
use Rattle.vms_check_laws.proofs.Premises.{IsSingle, NamesEarlier, OldFields, Met}
use Rattle.vms_check_laws.proofs.Presence
use Presence.{spells_split, behind_first, same_some, at_or_later, Above, none_before, apart, same_bytes, aligns_nil, aligns_number, aligns_constant}

-- two constants of one kind that have other bytes
pub record Differ (i j : Item) : Type 0 where
  pub kind : Kind
  pub value : ℤ
  pub other : ℤ
  pub item : i ≡ Equal kind value
  pub item' : j ≡ Equal kind other
  pub differ : code kind value ≡ code kind other → ⊥

-- wherever their fields are
pub record Clash (e f : Entry) : Type 0 where
  pub constants : Differ e.field.item f.field.item
  pub rest : e.rest ≡ None
  pub rest' : f.rest ≡ None

module _ (two : Two) where
  -- no rule fails before two constants that differ
  abbrev pub Clashes : List Entry → List Entry → Type 0
  Clashes (e ∷ es) (f ∷ fs) = Clash e f ⊎ (PairGood two e f × Clashes es fs)
  Clashes _ _ = ⊥

module _ (sides : Sides) where
  open sides use {two, ms, ns, numbers, numbers', at, at', below, below', table}
  open two use {a, b, v, w, o, n}

  abbrev SlotsAlign : List Slot → List Slot → Type 0
  SlotsAlign xs ys = Aligns numbers xs numbers' ys

  abbrev pub OldSlots : Entry → List Slot
  OldSlots e = slots_at ms a.fields v (older sides) numbers at e.index e.place e.field

  abbrev pub NewSlots : Entry → List Slot
  NewSlots f = slots_at ns b.fields w (newer sides) numbers' at' f.index f.place f.field

  -- ---- numbers that may be named

  one_same : (k l : Kind) (caps caps' : List ℕ) (x y : ℕ) → k ≡ l → (body r r' : List ℕ) → Spells numbers' (Number y l caps' ∷ []) body
      → body ++ r' ≡ zeroed numbers (Number x k caps ∷ []) ++ r → residue (width k) (get_or numbers x (pos 0)) ≡ residue (width l) (get_or numbers' y (pos 0))
  one_same k l caps caps' x y e body r r' s h =
      let same = same_bytes numbers _ numbers' _ (aligns_number _ _ x y k l caps caps' e) body r r' s h in
      let codes = (apart (code l _) (code k _) [] s.0 (rw (length-code, length-code, e)) (sym s.1 ∙ same)).0 in
      rw (← e) (sym (code_read k _) ∙ ap (big_number (width k)) (rw (← codes, e)) ∙ code_read k _)

  number_same : (j i : Item) (d c : Count) (t t' : Bool) (caps caps' : List ℕ) (x y step step' : ℕ) → is_num j ≡ true → is_one d ≡ true → same_item i j ≡ true
      → same_count o n c d ≡ true → t ≡ true → t' ≡ true
      → (body r r' : List ℕ) → Spells numbers' (if t' then times (elements_of d (newer sides)) (item_slots ns j caps' numbers') y step' else []) body
      → body ++ r' ≡ zeroed numbers (if t then times (elements_of c (older sides)) (item_slots ms i caps numbers) x step else []) ++ r
      → residue (width (kind_of i)) (get_or numbers x (pos 0)) ≡ residue (width (kind_of j)) (get_or numbers' y (pos 0))
  number_same j i d c t t' caps caps' x y step step' num one same counts is is' body r r' s h = grind (arith, one_same, kinds_same)

  pair_same : (e f : Entry) → Met sides e f → is_steady_in b f.index ≡ true
      → (body r r' : List ℕ) → Spells numbers' (NewSlots f) body → body ++ r' ≡ zeroed numbers (OldSlots e) ++ r → older sides e.index ≡ newer sides f.index
  pair_same e f met is body r r' spells h = grind (arith, named_pair, number_same, known_there)

  -- ---- position by position

  abbrev all_old : List Entry → List Slot
  all_old es = entries_slots ms a.fields v (older sides) numbers at es

  abbrev all_new : List Entry → List Slot
  all_new fs = entries_slots ns b.fields w (newer sides) numbers' at' fs

  -- numbers that tests and counts may name agree, of the fields before field i
  abbrev pub Same : ℕ → Type 0
  Same i = (k j : ℕ) → j < i → is_steady_in b j ≡ true → same_place (o k) (n j) ≡ true → older sides k ≡ newer sides j

  -- what is known of the entries from position p on, whose fields have numbers from i on
  pub record State (p i : ℕ) (es fs : List Entry) : Type 0 where
    pub known : AreKnown ms a.fields v numbers at es
    pub known' : AreKnown ns b.fields w numbers' at' fs
    pub above : Above i fs
    -- what has one position on both sides, from field i on, is one of these
    pub later : (k j : ℕ) → i ≤ j → same_place (o k) (n j) ≡ true → same_place (position_from p es k) (position_from p fs j) ≡ true
    pub same : Same i

  earlier_same : (p i : ℕ) (e f : Entry) (es fs : List Entry) → State p i (e ∷ es) (f ∷ fs) → Same f.index
  earlier_same p i e f es fs st k j lt named place = grind (arith, at_or_later, same_some, none_before)

  same_next : (p i : ℕ) (e f : Entry) (es fs : List Entry) → State p i (e ∷ es) (f ∷ fs)
      → (is_steady_in b f.index ≡ true → older sides e.index ≡ newer sides f.index)
      → Same (suc f.index)
  same_next p i e f es fs st here k j lt named place = let le : j ≤ f.index = omega arith in elim (eq-or-lt_of_le le) [
    | inl is ↦ elim (at_or_later k j p e f es fs (st.later k j (omega arith) place)) [
      | inl this ↦ rw (← this.0, ← this.1) (here (rw this.1 named))
      | inr more ↦ absurd (cc (eq-eqb f.index j (sym is)))
    ]
    | inr less ↦ earlier_same p i e f es fs st k j less named place
  ]

  module _ (named : NamesEarlier below' b) (old : OldFields below (older sides) a.fields) (fits : FitsAt (desc_cells (olds sides) a) numbers at) where
    here_aligns : (p i : ℕ) (e f : Entry) (es fs : List Entry) → State p i (e ∷ es) (f ∷ fs) → PairGood two e f → SlotsAlign (OldSlots e) (NewSlots f)
    here_aligns p i e f es fs st good =
        let k = st.known.0 in
        let met : Met sides e f = record { good = good; known = k; known' = st.known'.0 } in
        (pair_meets sides (λ j. is_earlier_in b f.index j) e f (record {
          met = met;
          old = old e.index e.field k.field;
          new = named f.index f.field st.known'.0.field;
          fits = k.fits fits;
          agree = λ k j named place.
              let r = and_parts (nat_lt j f.index) (is_steady_in b j) named in earlier_same p i e f es fs st k j (ltb-true j f.index r.0) r.1 place;
        })).aligned

    -- the front after one more pair: the bytes are split there
    pub record Past (p i : ℕ) (e f : Entry) (es fs : List Entry) (more_old more_new : List Slot) (r r' : List ℕ) : Type 0 where
      pub front : List ℕ
      pub rest : List ℕ
      pub here : Spells numbers' (NewSlots f) front
      pub behind : Spells numbers' more_new rest
      pub split : front ++ (rest ++ r') ≡ zeroed numbers (OldSlots e) ++ (zeroed numbers more_old ++ r)
      pub next : PairGood two e f → State (suc p) (suc f.index) es fs
      pub rests : PairGood two e f → rest ++ r' ≡ zeroed numbers more_old ++ r

    past : (p i : ℕ) (e f : Entry) (es fs : List Entry) (more_old more_new : List Slot) → State p i (e ∷ es) (f ∷ fs) → (body r r' : List ℕ)
        → Spells numbers' (NewSlots f ++ more_new) body
        → body ++ r' ≡ zeroed numbers (OldSlots e ++ more_old) ++ r → Past p i e f es fs more_old more_new r r'
    past p i e f es fs more_old more_new st body r r' s h =
        let t = spells_split numbers' (NewSlots f) more_new body s in
        let split = behind_first numbers (OldSlots e) more_old t.0 t.1 r r' (rw (sym t.2) (h)) in
        record {
          front = t.0;
          rest = t.1;
          here = t.3;
          behind = t.4;
          split = split;
          next = λ good. record {
            known = st.known.1;
            known' = st.known'.1;
            above = st.above.1;
            later = λ k j le place. elim (at_or_later k j p e f es fs (st.later k j (omega arith) place)) [
              | inl this ↦ absurd (omega arith)
              | inr more ↦ more.1
            ];
            same = same_next p i e f es fs st (λ is. pair_same e f (record { good = good; known = st.known.0; known' = st.known'.0 }) is t.0 _ _ t.3 split);
          };
          rests = λ good. (here_aligns p i e f es fs st good).rests t.0 _ _ t.3 split;
        }

    next_aligns : (p i : ℕ) (e f : Entry) (es fs : List Entry) (more_old more_new : List Slot) → State p i (e ∷ es) (f ∷ fs) → PairGood two e f
        → (State (suc p) (suc f.index) es fs → SlotsAlign more_old more_new) → SlotsAlign (OldSlots e ++ more_old) (NewSlots f ++ more_new)
    next_aligns p i e f es fs more_old more_new st good more = record {
      rests = λ body r r' s h.
          let q = past p i e f es fs _ _ st body r r' s h in
          (more (q.next good)).rests q.rest r r' q.behind (q.rests good);
    }

    -- the first k positions, at which no rule fails
    pub front_aligns : (k : ℕ) (es fs : List Entry) (p i : ℕ) → k ≤ length es → k ≤ length fs
        → ((q : ℕ) (e f : Entry) → q < k → slice_get es q ≡ Some e → slice_get fs q ≡ Some f → PairGood two e f)
        → State p i es fs → SlotsAlign (all_old (take k es)) (all_new (take k fs))
    front_aligns zero es fs p i le le' good st = aligns_nil _ _
    front_aligns (suc k) [] fs p i le le' good st = absurd (omega arith)
    front_aligns (suc k) (e ∷ es) [] p i le le' good st = absurd (omega arith)
    front_aligns (suc k) (e ∷ es) (f ∷ fs) p i le le' good st =
        next_aligns p i e f es fs _ _ st (good 0 e f (omega arith) refl refl)
        (λ more. front_aligns k es fs (suc p) (suc f.index) (omega arith) (omega arith) (λ q x y lt. good (suc q) x y (omega arith)) more)

    pub entries_align : (es fs : List Entry) (p i : ℕ) → AllZip (Met sides) es fs → State p i es fs → SlotsAlign (all_old es) (all_new fs)
    entries_align [] [] p i met st = aligns_nil _ _
    entries_align (e ∷ es) (f ∷ fs) p i met st = next_aligns p i e f es fs _ _ st met.0.good (λ more. entries_align es fs (suc p) (suc f.index) met.1 more)
    entries_align _ _ p i met st = absurd met

    -- ---- two constants that differ

    constants_same : (k : Kind) (z u : ℤ) (t t' : Bool) (c d : Count) (caps caps' : List ℕ) (x y step step' : ℕ) → is_one c ≡ true → is_one d ≡ true
        → t ≡ true → t' ≡ true → (body r r' : List ℕ)
        → Spells numbers' (if t' then times (elements_of d (newer sides)) (item_slots ns (Equal k u) caps' numbers') y step' else []) body
        → body ++ r' ≡ zeroed numbers (if t then times (elements_of c (older sides)) (item_slots ms (Equal k z) caps numbers) x step else []) ++ r
        → code k z ≡ code k u
    constants_same k z u true true One One caps caps' x y step step' one one' is is' body r r' s h =
        let same = same_bytes numbers _ numbers' _ (aligns_constant _ _ k k z u refl) body r r' s h in
        sym (apart (code k u) (code k z) [] s.0 (length-code k u ∙ sym (length-code k z)) (sym s.1 ∙ same)).0
    constants_same k z u _ _ _ _ caps caps' x y step step' one one' is is' body r r' s h = absurd (cc)

    clash_refuses : (e f : Entry) → Clash e f → IsKnown ms a.fields v numbers at e → IsKnown ns b.fields w numbers' at' f
        → (body r r' : List ℕ) → Spells numbers' (NewSlots f) body → body ++ r' ≡ zeroed numbers (OldSlots e) ++ r → ⊥
    clash_refuses e f clash known known' body r r' spells h =
        let d = clash.constants in
        let there_is' = known_there ns b.fields w numbers' at' f known' clash.rest' _ _ in
        let one : IsSingle (Equal d.kind d.value) e.field.count = rw d.item at (old e.index e.field known.field).single in
        let one' : IsSingle (Equal d.kind d.other) f.field.count = rw d.item' at (named f.index f.field known'.field).single in
        d.differ (constants_same d.kind d.value d.other _ _ _ _ (counted e.index a.fields) (counted f.index b.fields) _ _ _ _ one one'
        (known_there ms a.fields v numbers at e known clash.rest _ _) there_is' body r r' (rw d.item' at spells) (rw d.item at h))

    pub entries_clash : (es fs : List Entry) (p i : ℕ) → Clashes two es fs → State p i es fs → (body r r' : List ℕ) → Spells numbers' (all_new fs) body
        → body ++ r' ≡ zeroed numbers (all_old es) ++ r → ⊥
    entries_clash (e ∷ es) (f ∷ fs) p i clashes st body r r' s h =
        let q = past p i e f es fs _ _ st body r r' s h in
        elim clashes [
          | inl clash ↦ clash_refuses e f clash st.known.0 st.known'.0 _ _ _ q.here q.split
          | inr more ↦ entries_clash es fs (suc p) (suc f.index) more.1 (q.next more.0) q.rest r r' q.behind (q.rests more.0)
        ]
    entries_clash _ _ p i clashes st body r r' s h = absurd clashes
