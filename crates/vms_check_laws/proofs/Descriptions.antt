-- A description on each side: its bytes carry, what isn't in them is at its default, and at one front the newer set
-- takes exactly the bytes that the older one wrote. Validations that hold in the older set hold in the newer. The carried numbers
-- fit the cells of the newer set.
use Rattle.vms_check_laws.proofs.AlignedDescs.{Clashes, entries_align, entries_clash, State}
use Rattle.vms_check_laws.proofs.Counts.{caps_follow, IsIndexed, DescGood, indexed}
use Rattle.vms_check_laws.proofs.Facade
use Facade.{no_parent, reduced, reduced_holds, same_reduced, truth, truth_of, either_of, ◌≡◌, inl, inr, ℕ, suc, ◌+◌, ◌<◌, Bool, true, List}
use Facade.{◌∷◌, ◌++◌, get_or, Option, None, refl, arith, ℤ, [], cells_in, Item, Formula, Field, Cell, counted, item_cells, field_cells, cells_from}
use Facade.{Entry, defaults, carry_field, carry_from, FitsAt, ItemBelow, FieldsBelow, desc_cells, is_steady_in, present, AllZip, sym, ◌∙◌, and_from}
use Facade.{and_parts, list_all, list_any, Desc, Rule, Meaning, slots_from, desc_slots, all_hold, Part, position_from, Comparer, compare_desc, Carrier}
use Facade.{carry_desc, Holds, Aligns, or_else_none, Spells, zeroed, Carries, Known, Reduced, compare_validations, is_kept}
use Rattle.vms_check_laws.proofs.FieldsRead.{linked, agree_from, fields_settle, fields_carry, by_fields, field_sized, matched, covered_cells, there}
use Rattle.vms_check_laws.proofs.PairLists.{settled_more}
use Rattle.vms_check_laws.proofs.Premises.{olds, news, older, newer, decoded, OldFields, NewFields, DefaultsGood, ItemDefault, Sides}
use Rattle.vms_check_laws.proofs.Premises.{fields_below, FitCells, GoodCells, fit_none, fit_append, fit_defaults, good_append, good_times, Met, entries_slots}
use Rattle.vms_check_laws.proofs.Premises.{slots_entries, all_known, AreKnown, Two, Table, Meets, Reads, RulesNamed, all_met}
use Rattle.vms_check_laws.proofs.Presence
use Presence.{present_above, Agree, Named, named_left, same_reduced_truth, holds_at, carries_append, spells_split, behind_first, aligns_append, aligns_rule}

-- ---- the carried numbers fit new's cells

pub good_item : (y : List (List Cell)) (k : ℕ) (j : Item) (caps : List ℕ) (d : ℤ) → ((i : ℕ) → i < k → GoodCells (get_or y i [])) → ItemBelow k j
    → ItemDefault j caps d → GoodCells (item_cells y j caps d)
good_item y k j caps d good below h = grind arith

pub good_fields : (y : List (List Cell)) (k : ℕ) (all : List Field) (i : ℕ) (gs : List Field) → ((i : ℕ) → i < k → GoodCells (get_or y i []))
    → FieldsBelow k gs → DefaultsGood all i gs → GoodCells (cells_from y all i gs)
good_fields y k all i [] good below h = tt
good_fields y k all i (g ∷ gs) good below h =
    good_append _ _ (good_times _ _ 0 0 (good_item y k g.item _ _ good below.0 h.0)) (good_fields y k all (suc i) gs good below.1 h.1)

module _ (sides : Sides) where
  open sides use {two, cs, numbers, at, below, below', table}
  open two use {ks, a, b, v, w, part, part', o, n}

  -- each pair's numbers follow
  module _ (old : OldFields below (older sides) a.fields) (new : NewFields below' (is_steady_in b) b.fields)
      (fits : FitsAt (desc_cells (olds sides) a) numbers at)
      (all : List Entry) (met : AllZip (Met sides) all (present (news sides) b w)) where
    fit_pair : (e f : Entry) → Met sides e f × IsIndexed o n e f → GoodCells (item_cells (news sides) f.field.item (counted f.index b.fields) f.field.default)
        → FitCells (field_cells (news sides) b.fields f.index f.field) (carry_field cs (olds sides) (news sides) numbers (older sides) v at e f.field)
    fit_pair e f h good =
        let low = (new f.index f.field h.0.known'.field).item in
        elim (decoded two e f h.0.good) [
          | inl c ↦ fit_none _ _ (covered_cells sides e f c) (field_sized sides e f.index f.field low)
          | inr m ↦ (matched sides e f (there sides e) h.0.good m (old e.index e.field h.0.known.field).item low (h.0.known.fits fits)).fits good
              (λ k is num z high caps. caps_follow sides k all e f z is h.1 m high caps met new)
        ]

    pub fields_fit : DefaultsGood b.fields 0 b.fields → AllZip (λ e f. Met sides e f × IsIndexed o n e f) all (present (news sides) b w)
        → FitCells (desc_cells (news sides) b) (carry_from cs (olds sides) (news sides) numbers (older sides) v w at b.fields 0 b.fields all)
    fields_fit good h = by_fields sides _ (λ i p gs es fs zs. DefaultsGood b.fields i gs → FitCells (cells_from (news sides) b.fields i gs) zs) (λ i p good. tt)
        (λ i p g gs es fs zs lt more good.
        fit_append _ _ _ _ (fit_defaults _ (good_times _ _ 0 0 (good_item _ below' g.item _ _ (λ j l. (table.rows j l).good) lt good.0))) (more good.1))
        (λ i p g gs rest e es fs zs lt h more good.
        fit_append _ _ _ _ (fit_pair e _ h (good_item _ below' g.item _ _ (λ j l. (table.rows j l).good) lt good.0)) (more good.1))
        0 0 _ all (fields_below _ _ (λ j f e. (new j f e).item)) h good

-- ---- validations

module _ (sides : Sides) (ok : ℕ → Bool) where
  open sides use {two, numbers, numbers'}
  open two use {ks, a, b, v, w, part, part', o, n}

  some_same : (r : Reduced) (ss : List Formula) → Named ok r → Agree o n ok (older sides) (newer sides) → all_hold ss v (older sides) ≡ true
      → list_any (λ s. same_reduced o n (reduced v s) r) ss ≡ true → truth_of r w (newer sides) no_parent ≡ true
  some_same r [] named agree holds h = absurd (cc)
  some_same r (s ∷ ss) named agree holds h =
      let p = and_parts (truth s v _ no_parent) (all_hold ss v _) holds in
      either_of (same_reduced o n (reduced v s) r) (list_any (λ s. same_reduced o n (reduced v s) r) ss) h
      (λ is. rw (← (same_reduced_truth o n ok (older sides) (newer sides) no_parent no_parent v w agree (reduced v s) r named is), reduced_holds) p.0)
      (λ k. some_same r ss named agree p.1 k)

  kept_holds : (r : Reduced) → Named ok r → Agree o n ok (older sides) (newer sides) → all_hold a.validate v (older sides) ≡ true
      → is_kept ks a b v w part part' o n r ≡ true → truth_of r w (newer sides) no_parent ≡ true
  kept_holds (Known true) named agree holds h = refl
  kept_holds _ named agree holds h = some_same _ a.validate named agree holds h

  rules_hold : (ts : List Formula) → RulesNamed ok ts → Agree o n ok (older sides) (newer sides) → all_hold a.validate v (older sides) ≡ true
      → list_all (λ t. is_kept ks a b v w part part' o n (reduced w t)) ts ≡ true → all_hold ts w (newer sides) ≡ true
  rules_hold [] named agree holds h = refl
  rules_hold (t ∷ ts) named agree holds h =
      let p = and_parts (is_kept ks a b v w part part' o n (reduced w t)) (list_all (λ t. is_kept ks a b v w part part' o n (reduced w t)) ts) h in
      and_from _ _ (sym (reduced_holds t w _ _) ∙ (kept_holds _ (named_left ok w t named.0) agree holds p.0)) (rules_hold ts named.1 agree holds p.1)

  pub rule_carries : compare_validations ks a b v w part part' o n ≡ None → RulesNamed ok b.validate → Agree o n ok (older sides) (newer sides)
      → Carries numbers (Rule (all_hold a.validate v (older sides)) ∷ []) numbers' (Rule (all_hold b.validate w (newer sides)) ∷ [])
  rule_carries h named agree = search (arith, rules_hold)

-- ---- whole descriptions

module _ {ks : List Comparer} {cs : List Carrier} {ms ns : List Meaning} {numbers numbers' : List ℤ} {below below' : ℕ}
    (table : Table ks cs ms ns numbers numbers' below below') (a b : Desc) (v w : ℕ) (part part' : Part) (at : ℕ) where
  abbrev es : List Entry
  es = present (cells_in ms) a v

  abbrev fs : List Entry
  fs = present (cells_in ns) b w

  abbrev o : ℕ → Option ℕ
  o k = position_from 0 es k

  abbrev n : ℕ → Option ℕ
  n k = position_from 0 fs k

  abbrev two : Two
  two = record { ks = ks; a = a; b = b; v = v; w = w; part = part; part' = part'; o = o; n = n }

  -- with the newer numbers from a cell on
  abbrev pub sides : ℕ → Sides
  sides at' =
      record { two = two; cs = cs; ms = ms; ns = ns; numbers = numbers; numbers' = numbers'; at = at; at' = at'; below = below; below' = below'; table = table }

  abbrev own : ℕ → ℕ
  own = older (sides at)

  known : AreKnown ms a.fields v numbers at es
  known = all_known ms a.fields v numbers at

  -- the fields' slots are those of the present ones
  old_same : slots_from ms a.fields v own numbers 0 at a.fields ≡ entries_slots ms a.fields v own numbers at es
  old_same = let z : at + 0 ≡ at = omega arith in rw z at (slots_entries ms a.fields v own numbers at 0 0 a.fields)

  new_same : (at' : ℕ) → slots_from ns b.fields w (newer (sides at')) numbers' 0 at' b.fields ≡ entries_slots ns b.fields w (newer (sides at')) numbers' at' fs
  new_same at' = let z : at' + 0 ≡ at' = omega arith in rw z at (slots_entries ns b.fields w (newer (sides at')) numbers' at' 0 0 b.fields)

  pub first_state : (at' : ℕ) → State (sides at') 0 0 es fs
  first_state at' = search (arith, known, all_known, present_above)

  module _ (old : OldFields below own a.fields) (good : DescGood below' b) (fits : FitsAt (desc_cells (cells_in ms) a) numbers at) where
    module _ (none : compare_desc ks (cells_in ms) (cells_in ns) a b v w part part' ≡ None) where
      met : (at' : ℕ) → AllZip (Met (sides at')) es fs
      met at' = all_met (sides at') es fs (or_else_none _ _ none).0 known (all_known ns b.fields w numbers' at')

      aligned : (at' : ℕ) → Aligns numbers (desc_slots ms a v numbers at) numbers' (desc_slots ns b w numbers' at')
      aligned at' =
          let body = entries_align _ good.earlier old fits es fs 0 0 (met at') (first_state at') in
          aligns_append _ _ _ _ _ _ (rw (old_same, new_same at') body) (aligns_rule _ _ _ _)

      reads : (at' : ℕ) → Holds numbers' at' (carry_desc cs (cells_in ms) (cells_in ns) numbers v w a b at)
          → Reads numbers numbers' (desc_slots ms a v numbers at) (desc_slots ns b w numbers' at') at' (desc_cells (cells_in ns) b)
          (carry_desc cs (cells_in ms) (cells_in ns) numbers v w a b at)
      reads at' held =
          let s = sides at' in
          let ok = is_steady_in b in
          let below = fields_below _ _ (λ j f e. (good.new j f e).item) in
          let link = linked s 0 0 _ es below (met at') (holds_at (omega arith) held) in
          let agree : Agree o n ok own (newer (sides at')) = λ i j named h. agree_from s i j 0 es fs link named h in
          let z : at' + 0 ≡ at' = omega arith in
          record {
            carries = carries_append (rw (old_same, new_same at') (fields_carry s ok old good.new fits agree es fs link))
                (rule_carries s ok (or_else_none _ _ none).1 good.rules agree);
            settled = settled_more _ _ at' _ _ (rw z at (fields_settle s ok old good.new fits agree 0 0 _ es below link));
          }

      -- no rule fails at them
      pub desc_meets : Meets numbers numbers' (desc_slots ms a v numbers at) (λ y. desc_slots ns b w numbers' y) (desc_cells (cells_in ns) b)
          (carry_desc cs (cells_in ms) (cells_in ns) numbers v w a b at)
      desc_meets = record {
        fits = fields_fit _ old good.new fits es (met 0) good.defaults
            (indexed o n (Met (sides 0)) 0 0 es fs (met 0) (present_above _ b.fields w 0 0 b.fields) (λ by j le h. h));
        aligned = aligned;
        reads = reads;
      }

    pub desc_clashes : (at' : ℕ) → Clashes two es fs → (body r r' : List ℕ) → Spells numbers' (desc_slots ns b w numbers' at') body
        → body ++ r' ≡ zeroed numbers (desc_slots ms a v numbers at) ++ r → ⊥
    desc_clashes at' clashes body r r' s h =
        let t = spells_split _ (slots_from ns b.fields w (newer (sides at')) numbers' 0 at' b.fields)
        (Rule (all_hold b.validate w (newer (sides at'))) ∷ []) body s in
        let split = behind_first numbers (slots_from ms a.fields v own numbers 0 at a.fields) (Rule _ ∷ []) t.0 t.1 r r' (rw t.2 at h) in
        entries_clash (sides at') good.earlier old fits es fs 0 0 clashes (first_state at') t.0 _ _ (rw (← (new_same at')) t.3) (rw old_same at split)
