-- A walk over parts: what is done at each of them is done at the whole.
use Rattle.vms_walk.proofs.{Walking.fields_local, Walking.present_local, Walking.part_sound, Walking.set_settled, Spots.field_needs}
use Rattle.vms_walk.proofs.Facade
use Facade.{◌≡◌, ℕ, ◌+◌, ◌*◌, ◌<◌, ◌≤◌, List, [], ◌∷◌, ◌++◌, length, take, ℤ, refl, sym, ap, ◌∙◌, arith}
use Facade.{append_assoc, pos, Option, Bool, true, take_all, Item, Field, Set, Slot, Rule, item_slots, slots_from, field_slots, all_hold, capacity_of, counted}
use Facade.{IsGood, SameBelow, item_above, field_above, meanings_above, least_of, field_at, is_well_formed, HasPart, desc_at, WalkStep, PartAt, Keeps, steps_of}
use Facade.{table, spot_numbers, spot_slots, slots_at, size_in, capacities_of, elements_slots, present_of, cell_of, HasSpot, MayCome, Result, Ok, Does, IsWalk}
use Rattle.vms_walk.proofs.Walking.{Among, steps_append, steps_parts, times_more, times_split, fields_split, fields_more, keeps_first, items_local}
use Rattle.vms_walk.specs.declared.step.WalkStep.TheVariants as steps
use Rattle.std.proofs.lemmas.List.{ext_get_or}

-- ---- what a part has

module _ (set : Set) (item : Item) (most : Option ℕ) where
  -- the slots of an element
  abbrev pub element : List ℤ → ℕ → List Slot
  element n at = item_slots (table set) item (capacities_of most) n at

module _ (set : Set) (spot : PartAt) where
  abbrev fields : List Field
  fields = (desc_at set spot.part).fields

  -- the slots of the first fields
  abbrev pub firsts : ℕ → List ℤ → List Slot
  firsts i n = slots_from (table set) fields spot.version (spot_numbers set spot n) n 0 spot.base (take i fields)

  -- whether the validations hold
  abbrev sound : List ℤ → Bool
  sound n = all_hold (desc_at set spot.part).validate spot.version (spot_numbers set spot n)

-- ---- elements

-- the first `i` elements are done, from `a` to `b`, and the next one's cells begin at `cell`
pub record Walked {S F : Type 0} (N : S → List ℤ) (does : Does S F) (set : Set) (item : Item) (most : Option ℕ) (first i cell : ℕ) (a b : S) : Type 0 where
  pub good : IsGood set
  pub here : cell ≡ first + i * size_in set item
  pub way : does (steps_of (elements_slots set item most (N b) i first)) a (Ok tt) b

module _ {S F : Type 0} {N : S → List ℤ} {does : Does S F} {set : Set} {item : Item} {most : Option ℕ} {first i cell : ℕ} {a b : S}
    (done : Walked N does set item most first i cell a b) (count : ℕ) (lt : i < count) where
  pub element_among : Among N does (λ n. steps_of (elements_slots set item most n count first)) (λ n. steps_of (elements_slots set item most n (i + 1) first))
      (λ n. steps_of (elements_slots set item most n i first)) (λ n. steps_of (element set item most n cell)) a b
  element_among = record {
    way = λ n ys zs e k.
        let above = item_above (table set) (meanings_above set.structs (length set.structs)) item (capacities_of most) n cell in
        let s = keeps_first cell (element set item most n cell) ys zs (N b) n e above k in
        rw (items_local (table set) (set_settled set done.good) item (capacities_of most) i first (N b) n (rw done.here at s)) done.way;
    more = λ n. rw done.here
        (ap steps_of (times_more i (element set item most n) first (size_in set item))
        ∙ steps_append (elements_slots set item most n i first) (element set item most n (first + i * size_in set item)));
    split = λ n.
        let parts = times_split count i (element set item most n) first (size_in set item) lt in (
          steps_of parts.0,
          steps_parts (elements_slots set item most n i first) (element set item most n cell) parts.0
              (elements_slots set item most n count first) (rw done.here parts.1),
        );
  }

-- ---- fields

-- the slots of a field are those of its elements, whose number the numbers below it say
pub field_slots_are : (set : Set) (good : IsGood set) (well : is_well_formed set ≡ true) (spot : PartAt) (i cell : ℕ) (n m : List ℤ)
    → cell ≡ cell_of set spot i → length m ≡ length n → HasSpot set spot n
    → (count : ℕ) (item : Item) (most : Option ℕ) → i < length (fields set spot) → item ≡ (field_at set spot.part i).item
    → count ≡ present_of (field_at set spot.part i) spot.version (spot_numbers set spot n) → most ≡ least_of (counted i (fields set spot))
    → cell + capacity_of (field_at set spot.part i).count * size_in set (field_at set spot.part i).item ≤ length n → SameBelow cell n m
    → steps_of (slots_at set spot m i cell) ≡ steps_of (elements_slots set item most m count cell)
field_slots_are set good well spot i cell n m here long h count item most lt is there least room s =
    let same = present_local (table set) (set_settled set good) _ (part_sound _ good _ h.part) spot.version spot.base _ n m lt
    (rw here at s) in
    let few : HasSpot set spot m = record { part = h.part; few = rw long h.few; room = rw long h.room } in
    (field_needs _ well _ _ few _ cell _ _ _ lt is (there ∙ sym same) least (rw long room)).steps

-- the first `i` fields of a part are done, from `a` to `b`, and the next one's cells begin at `cell`
pub record Past {S F : Type 0} (N : S → List ℤ) (does : Does S F) (set : Set) (spot : PartAt) (i cell : ℕ) (a b : S) : Type 0 where
  pub good : IsGood set
  pub has : HasPart set spot.part
  pub le : i ≤ length (fields set spot)
  pub here : cell ≡ cell_of set spot i
  pub way : does (steps_of (firsts set spot i (N b))) a (Ok tt) b

module _ {S F : Type 0} {N : S → List ℤ} {does : Does S F} {set : Set} {spot : PartAt} {i cell : ℕ} {a b : S} (past : Past N does set spot i cell a b) where
  -- the field among all slots of the part
  whole_split : i < length (fields set spot) → (n : List ℤ) → (rest : List Slot)
      × (spot_slots set spot n ≡ firsts set spot i n ++ (slots_at set spot n i cell ++ rest))
  whole_split lt n =
      let d = desc_at set spot.part in
      let own = spot_numbers set spot n in
      let parts = fields_split (table set) d.fields spot.version own n _ 0 spot.base _ i (omega arith) lt in
      let at = λ (x : ℕ). field_slots (table set) d.fields spot.version own n i x (field_at set spot.part i) in (
        parts.0 ++ (Rule (all_hold d.validate spot.version own) ∷ []),
        rw (parts.1 ∙ ap (λ x. firsts set spot i n ++ (at x ++ parts.0)) (sym past.here)) (rw (append_assoc (firsts set spot i n), append_assoc (at cell))),
      )

  pub field_among : i < length (fields set spot)
      → Among N does (λ n. steps_of (spot_slots set spot n)) (λ n. steps_of (firsts set spot (i + 1) n)) (λ n. steps_of (firsts set spot i n))
      (λ n. steps_of (slots_at set spot n i cell)) a b
  field_among lt = record {
    way = λ n ys zs e k.
        let own = spot_numbers set spot n in
        let f = field_at set spot.part i in
        let up = field_above (table set) (meanings_above set.structs (length set.structs)) (fields set spot) spot.version own n i cell f in
        rw (fields_local (table set) (set_settled set past.good) (desc_at set spot.part) (part_sound set past.good spot.part past.has) spot.version spot.base
        i (N b) n past.le (rw past.here at (keeps_first cell (slots_at set spot n i cell) ys zs (N b) n e up k))) past.way;
    more = λ n.
        let own = spot_numbers set spot n in rw past.here
        (ap steps_of (fields_more (table set) (fields set spot) spot.version own n (fields set spot) 0 spot.base i i (omega arith) lt)
        ∙ steps_append (firsts set spot i n) (slots_at set spot n i (cell_of set spot i)));
    split = λ n.
        let parts = whole_split lt n in
        (steps_of parts.0, steps_parts (firsts set spot i n) (slots_at set spot n i cell) parts.0 (spot_slots set spot n) parts.1);
  }

  module _ (end : i ≡ length (fields set spot)) where
    -- the end of the part, when all its fields are done
    whole_past : (n : List ℤ) → spot_slots set spot n ≡ firsts set spot i n ++ (Rule (sound set spot n) ∷ [])
    whole_past n = rw (end, take_all (length (fields set spot)) (fields set spot) (omega arith))

    end_steps : steps_of (spot_slots set spot (N b)) ≡ steps_of (firsts set spot i (N b)) ++ (steps.Rule (sound set spot (N b)) ∷ [])
    end_steps = ap steps_of (whole_past (N b)) ∙ steps_append (firsts set spot i (N b)) (Rule (sound set spot (N b)) ∷ [])

    pub rule_done : IsWalk N does → (c : S) (r : Result (Unit {0}) F) → N c ≡ N b → does (steps.Rule (sound set spot (N b)) ∷ []) b r c
        → does (steps_of (spot_slots set spot (N c))) a r c
    rule_done laws c r same h = grind (arith, end_steps)

    pub rule_may : (may : S → WalkStep → Type 0) → MayCome does N may (spot_slots set spot) a → may b (steps.Rule (sound set spot (N b)))
    rule_may may all = all (steps_of (firsts set spot i (N b))) [] [] _ b past.way end_steps

-- a rule changes no number
pub same_rule : (b : Bool) (n m : List ℤ) → Keeps (steps.Rule b ∷ []) n m → m ≡ n
same_rule b n m k = ext_get_or (pos 0) m n k.long (λ c lt. k.same c refl)
