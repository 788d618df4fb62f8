-- In the fields of a part the judge reads slot by slot, as the structural reader does: taking a
-- slot is what is seen of its unit.
use Rattle.vms_stream.proofs.{Finding.advances, Finding.IsFramed, Finding.behind_each, Judging.solid, Facade.judge_found, Facade.by_row}
use Rattle.vms_stream.proofs.Facade.{owes, State, Inside, image_at, part_at, known_at, after, by_state, ◌≡◌, if_both, ℕ, length, take, Option, Some}
use Rattle.vms_stream.proofs.Facade.{None, ℤ, refl, ap, ◌∙◌, Bool, true, false, not, nat_lt, ◌&&◌, if◌then◌else◌, zero, suc, ◌<◌, List}
use Rattle.vms_stream.proofs.Facade.{[], ◌∷◌, get_or, drop, slice_set, Ok, Err, sym, arith, slice_get, drop-append_seam, Kind, width, value_of, Reason}
use Rattle.vms_stream.proofs.Facade.{is_truth, is_above, exceeds, same_number, Slot, desc_slots, meanings, Progress, Taken, refuse, on, take_value, take_slot}
use Rattle.vms_stream.proofs.Facade.{Refusal, take_desc, takers, Piece, Number, Constant, Filler, raw_same, bad_same, raw, Field, Due, AfterFields, due_field}
use Rattle.vms_stream.proofs.Facade.{rules_hold, Whole, Cut, needs, Found, unit_at, Seen, Good, Bad, Short, seen, seen_in, seen_by, Known, beyond, skipped}
use Rattle.vms_stream.proofs.Facade.{first_row, alone, first_of, put, taken_by, Set, Device, Desc, Image, Verdict, Faulty, Reading, Refused, reading_after}
use Rattle.vms_stream.proofs.Facade.{part_slots, reading_on, at_set, set_twice, one_unit, none_taken, IsSound, AreSound, same_refl, drop_next, Comes}
use Rattle.vms_stream.proofs.Facade.{set_desc_comes, step, Walks, Is, steps_keep, cut_in, Grammar, judge}
use Rattle.vms_spec.specs.Layout.{Number as NumberSlot, Constant as ConstantSlot, Filler as FillerSlot, Rule as RuleSlot}
use Rattle.vms_spec.specs.Readings.{Over as IsOver}
use Rattle.vms_bodies.proofs.SpellLaws.{after as step_after, Refuses}
use Rattle.vms_spec.specs.declared.Reason.TheVariants as reasons

-- a slot that is a unit
abbrev pub IsUnit : Slot → Type 0
IsUnit (RuleSlot b) = ⊥
IsUnit slot = Unit {0}

-- the rows for a slot's unit: a bad bool, and what the slot requires
abbrev pub two_rows : Option ℕ → Bool → Bool → Reason → Option (Option ℕ × Reason)
two_rows section bad other reason = if bad then Some (section, reasons.BadBool) else if other then Some (section, reason) else None

-- what is seen by these tests: whether the input ends, a bad bool, and what the slot requires
abbrev pub by_tests : Bool → Bool → Bool → Piece → ℕ → Reason → Seen
by_tests cut bad other x n reason = if cut then Short else if bad then Bad n reasons.BadBool else if other then Bad n reason else Good x n

-- what is taken by them
tests_taken : (p : Progress) (cut bad other : Bool) (x : Piece) (n : ℕ) (reason : Reason) → taken_by p (by_tests cut bad other x n reason)
    ≡ (if cut then refuse p reasons.Truncated (length p.rest) else if bad then refuse p reasons.BadBool n else if other then refuse p reason n else on n
    (put x p.numbers) p)
tests_taken p cut bad other x n reason = grind arith

module _ (k : ℕ) (known : Known) where
  rows_tested : (section : Option ℕ) (bad other : Bool) (x : Piece) (n : ℕ) (reason : Reason)
      → seen_by (two_rows section bad other reason) x n ≡ by_tests false bad other x n reason
  rows_tested section bad other x n reason = grind arith

  pub tested : (slot : Slot) (cut bad other : Bool) (x : Piece) (n : ℕ) (reason : Reason)
      → first_row (alone (Field k slot) known x) ≡ two_rows known.section bad other reason
      → seen_in (Field k slot) known (if cut then Cut else Whole x n) ≡ by_tests cut bad other x n reason
  tested slot cut bad other x n reason e = grind (arith, rows_tested)

  module _ (p : Progress) where
    value_seen : (slot : Slot) (kind : Kind) (unit : ℤ → Piece) (reason : Reason) (fails : ℤ → Bool)
        → ((z : ℤ) → first_row (alone (Field k slot) known (unit z)) ≡ two_rows known.section (is_truth kind && is_above z 1) (fails z) reason)
        → taken_by p (seen_in (Field k slot) known
        (needs (width kind) p.rest (unit (value_of (raw kind) (take (width kind) p.rest))))) ≡ take_value kind reason fails (λ z. put (unit z) p.numbers) p
    value_seen slot kind unit reason fails rows = grind (arith, width, on, put, tested, tests_taken, bad_same, raw_same)

    pub slot_seen : (slot : Slot) → IsUnit slot → taken_by p (seen (Field k slot) known p.rest) ≡ take_slot slot p
    slot_seen (NumberSlot c kind caps) u = value_seen (NumberSlot c kind caps) kind (Number c kind) reasons.CountTooLarge (exceeds caps) (λ z. refl)
    slot_seen (ConstantSlot kind y) u = value_seen (ConstantSlot kind y) kind (Constant kind) reasons.NotEqual (λ z. not (same_number z y)) (λ z. refl)
    slot_seen (FillerSlot n) u = grind (arith, tested, tests_taken)
    slot_seen (RuleSlot b) u = absurd u

module _ (set : Set) (names : List (List ℕ)) (state : State) (d : Device) (image : Image) (k id : ℕ) (part : Option ℕ) where
  abbrev g : Grammar State
  g = by_state set names

  abbrev now : List ℤ → Image
  now numbers = record image { numbers = numbers }

  abbrev in_body : List ℤ → ℕ → State
  in_body numbers i =
      record { machine = state.machine; images = slice_set state.images k (now numbers); came = state.came; tail = state.tail; spot = Inside k id part i }

  abbrev total : List ℤ → List Slot
  total numbers = part_slots set (Some d) (now numbers) part

  abbrev goes_on : ℕ → Progress → Option (Reading State)
  goes_on i p = reading_on (judge g) (in_body p.numbers i) p.place p.rest

  abbrev is_refused : Refusal → Option (Reading State)
  is_refused e = Some (Refused e.place (Some k) e.reason e.long)

  abbrev reads : Progress → Verdict State → Option (Reading State)
  reads p v = reading_after (reading_on (judge g)) p.place p.rest v

  module _ (e : slice_get set.devices k ≡ Some d) (lt : k < length state.images) where
    part_now : (numbers : List ℤ) (i : ℕ) → part_slots set (slice_get set.devices k) (image_at (in_body numbers i)) part ≡ total numbers
    part_now numbers i = rw (e, at_set _ k _ lt)

    -- the verdict, if this is due
    abbrev verdict : ℕ → Progress → Due → Found → Verdict State
    verdict i p due (Whole x n) = by_row g (first_of set names due (known_at set (in_body p.numbers i)) x) n (after set (in_body p.numbers i) x)
    verdict i p due Cut = if owes due p.rest then Faulty (cut_in due p.rest (Some k)) reasons.Truncated (length p.rest) else IsOver (in_body p.numbers i)

    same : (i : ℕ) (p : Progress) (f : Found) → judge_found g (in_body p.numbers i) p.rest f ≡ verdict i p (g.due (in_body p.numbers i)) f
    same i p (Whole x n) = refl
    same i p Cut = refl

    abbrev judged : ℕ → Progress → List Slot → Verdict State
    judged i p slots =
        if rules_hold slots then verdict i p (due_field state.tail (Some k) slots) (unit_at (due_field state.tail (Some k) slots) p.rest) else Faulty
        (Some k) reasons.Invalid 0

    -- by the slots that are left
    by_slots : (i : ℕ) (p : Progress) (slots : List Slot) → drop i (total p.numbers) ≡ slots → judge g (in_body p.numbers i) p.rest ≡ judged i p slots
    by_slots i p slots h = rw (same i p _) (ap (judged i p) (ap (drop i) (part_now _ i) ∙ h))

    so : (i : ℕ) (p : Progress) (slots : List Slot) → drop i (total p.numbers) ≡ slots → goes_on i p ≡ reads p (judged i p slots)
    so i p slots h = cc ((one_unit _ (advances g (λ s. solid set s s.spot)) _ _ p.rest), by_slots i p slots h)

    -- if no slot is skipped, one more slot is passed with the next unit
    counted : (numbers : List ℤ) (i : ℕ) (slots : List Slot) → drop i (total numbers) ≡ slots → skipped slots ≡ 0
        → beyond i (part_at set (in_body numbers i) (Inside k id part i)) ≡ suc i
    counted numbers i slots h z =
        let f : skipped (drop i (part_slots set (slice_get set.devices k) (image_at (in_body numbers i)) part)) ≡ 0 =
        rw (part_now _ i) (ap skipped h ∙ z) in
        omega arith

    -- what is taken, as the judge resumes from there
    abbrev goes : ℕ → Taken → Option (Reading State)
    goes i t = step_after total goes_on goes_on is_refused i t

    -- a unit is refused by the row that takes it, or puts what it holds
    by_rows : (i : ℕ) (p : Progress) (x : Piece) (n : ℕ) (bad other : Bool) (why : Reason)
        → after set (in_body p.numbers i) x ≡ in_body (put x p.numbers) (suc i)
        → reads p (by_row g (two_rows (Some k) bad other why) n (after set (in_body p.numbers i) x)) ≡ goes i
        (taken_by p (seen_by (two_rows (Some k) bad other why) x n))
    by_rows i p x n bad other why e = grind arith

    -- as it is seen, so the judge goes on
    as_seen : (i : ℕ) (p : Progress) (slot : Slot) (cut : Bool) (x : Piece) (n : ℕ)
        → reads p (verdict i p (Field k slot) (Whole x n)) ≡ goes i (taken_by p (seen_in (Field k slot) (known_at set (in_body p.numbers i)) (Whole x n)))
        → reads p (verdict i p (Field k slot) (if cut then Cut else Whole x n)) ≡ goes i
        (taken_by p (seen_in (Field k slot) (known_at set (in_body p.numbers i)) (if cut then Cut else Whole x n)))
    as_seen i p slot cut x n e = grind arith

    put_on : (numbers : List ℤ) (i c : ℕ) (kind : Kind) (z : ℤ) → beyond i (part_at set (in_body numbers i) (Inside k id part i)) ≡ suc i
        → after set (in_body numbers i) (Number c kind z) ≡ in_body (slice_set numbers c z) (suc i)
    put_on numbers i c kind z n = rw (n, at_set _ k _ lt, set_twice _ k _ _)

    number_is : (i : ℕ) (p : Progress) (c : ℕ) (kind : Kind) (caps : List ℕ) (more : List Slot) → drop i (total p.numbers) ≡ NumberSlot c kind caps ∷ more
        → goes_on i p ≡ goes i (take_slot (NumberSlot c kind caps) p)
    number_is i p c kind caps more h =
        let z = value_of (raw kind) (take (width kind) p.rest) in
        so i p _ h ∙ as_seen i p (NumberSlot c kind caps) (nat_lt (length p.rest) (width kind)) (Number c kind z) (width kind)
        (by_rows i p (Number c kind z) (width kind) (is_truth kind && is_above z 1) (exceeds caps z) reasons.CountTooLarge
        (put_on p.numbers i c kind z (counted p.numbers i _ h refl)))
        ∙ ap (goes i) (slot_seen k (known_at set (in_body p.numbers i)) p (NumberSlot c kind caps) tt)

    constant_is : (i : ℕ) (p : Progress) (kind : Kind) (y : ℤ) (more : List Slot) → drop i (total p.numbers) ≡ ConstantSlot kind y ∷ more
        → goes_on i p ≡ goes i (take_slot (ConstantSlot kind y) p)
    constant_is i p kind y more h =
        let z = value_of (raw kind) (take (width kind) p.rest) in
        so i p _ h ∙ as_seen i p (ConstantSlot kind y) (nat_lt (length p.rest) (width kind)) (Constant kind z) (width kind)
        (by_rows i p (Constant kind z) (width kind) (is_truth kind && is_above z 1) (not (same_number z y)) reasons.NotEqual
        (ap (in_body p.numbers) (counted p.numbers i _ h refl)))
        ∙ ap (goes i) (slot_seen k (known_at set (in_body p.numbers i)) p (ConstantSlot kind y) tt)

    filler_is : (i : ℕ) (p : Progress) (n : ℕ) (more : List Slot) → drop i (total p.numbers) ≡ FillerSlot (suc n) ∷ more
        → goes_on i p ≡ goes i (take_slot (FillerSlot (suc n)) p)
    filler_is i p n more h =
        let bytes = take (suc n) p.rest in
        so i p _ h ∙ as_seen i p (FillerSlot (suc n)) (nat_lt (length p.rest) (suc n)) (Filler bytes) (suc n)
        (by_rows i p (Filler bytes) (suc n) false false reasons.Invalid (ap (in_body p.numbers) (counted p.numbers i _ h refl)))
        ∙ ap (goes i) (slot_seen k (known_at set (in_body p.numbers i)) p (FillerSlot (suc n)) tt)

    -- ---- what takes no byte

    after_same : (numbers : List ℤ) (i j : ℕ)
        → beyond i (part_at set (in_body numbers i) (Inside k id part i)) ≡ beyond j (part_at set (in_body numbers j) (Inside k id part j)) → (x : Piece)
        → after set (in_body numbers i) x ≡ after set (in_body numbers j) x
    after_same numbers i j c x = grind arith

    cut_same : (i j : ℕ) (p : Progress) (slots : List Slot)
        → verdict i p (due_field state.tail (Some k) slots) Cut ≡ verdict j p (due_field state.tail (Some k) slots) Cut
    cut_same i j p (RuleSlot b ∷ slots) = cut_same i j p slots
    cut_same i j p (FillerSlot zero ∷ slots) = cut_same i j p slots
    cut_same i j p slots = refl

    judged_same : (i j : ℕ) (p : Progress) (slots : List Slot)
        → beyond i (part_at set (in_body p.numbers i) (Inside k id part i)) ≡ beyond j (part_at set (in_body p.numbers j) (Inside k id part j))
        → judged i p slots ≡ judged j p slots
    judged_same i j p slots c = rw (by (unit_at (due_field state.tail (Some k) slots) p.rest))
      where
        by : (f : Found) → verdict i p (due_field state.tail (Some k) slots) f ≡ verdict j p (due_field state.tail (Some k) slots) f
        by (Whole x n) = grind (arith, first_of, after_same)
        by Cut = cut_same i j p slots

    skips : (i : ℕ) (p : Progress) (slot : Slot) (more : List Slot) → drop i (total p.numbers) ≡ slot ∷ more → skipped (slot ∷ more) ≡ suc (skipped more)
        → judged i p (slot ∷ more) ≡ judged i p more → goes_on i p ≡ goes_on (suc i) p
    skips i p slot more h z v =
        let next = drop_next _ i slot more h in
        let all = part_slots set (slice_get set.devices k) (image_at (in_body p.numbers i)) part in
        let a : skipped (drop i all) ≡ suc (skipped more) = rw (part_now _ i) (ap skipped h ∙ z) in
        let b : skipped (drop (suc i) all) ≡ skipped more = rw (part_now _ i) (ap skipped next) in
        so i p (slot ∷ more) h ∙ ap (reads p) (v ∙ judged_same i (suc i) p more (omega arith)) ∙ sym (so (suc i) p more next)

    walk : (i : ℕ) (p : Progress) (slots : List Slot) → drop i (total p.numbers) ≡ slots → goes_on i p ≡ step total goes_on goes_on is_refused slots i p
    walk i p [] h = refl
    walk i p (NumberSlot c kind caps ∷ more) h = number_is i p c kind caps more h
    walk i p (ConstantSlot kind z ∷ more) h = constant_is i p kind z more h
    walk i p (FillerSlot zero ∷ more) h = cc (skips i p _ more h refl refl, none_taken p)
    walk i p (FillerSlot (suc n) ∷ more) h = filler_is i p n more h
    walk i p (RuleSlot true ∷ more) h = skips i p _ more h refl refl
    walk i p (RuleSlot false ∷ more) h = so i p _ h

    -- the judge walks the slots as the structural reader does, for every description
    pub judge_walks : Walks total goes_on goes_on is_refused
    judge_walks = record { walks = λ i p. walk i p _ refl }

    -- ---- a whole body

    -- when the fields are done, the reading goes on with all slots passed
    abbrev pub Reads : ℕ → Progress → Taken → Type 0
    Reads i p (Ok q) = (done : ℕ) × (drop done (total q.numbers) ≡ []) × (goes_on i p ≡ goes_on done q)
    Reads i p (Err e) = goes_on i p ≡ is_refused e

    body_ends : (i : ℕ) (p : Progress) (cell : ℕ) (t : Taken)
        → Comes total (Is total goes_on goes_on is_refused (goes_on i p)) (Refuses total goes_on goes_on is_refused (goes_on i p)) cell (λ m. []) t
        → Reads i p t
    body_ends i p cell (Err e) c = c.comes
    body_ends i p cell (Ok q) c =
        let done = c.comes.0 in
        (length done, ap (drop (length done)) (c.comes.1.split q.numbers (same_refl cell _)) ∙ drop-append_seam done [], c.comes.1.holds)

    -- a body whose slots are those of a description is read as the description is taken
    pub body_read : AreSound set.structs → (desc : Desc) (v base : ℕ) → IsSound desc
        → ((m : List ℤ) → total m ≡ desc_slots (meanings set.structs (length set.structs)) desc v m base)
        → (p : Progress) → Reads 0 p (take_desc (takers set.structs (length set.structs)) desc v base p)
    body_read structs desc v base sound is p =
        let n = length set.structs in
        body_ends 0 p _ _ (set_desc_comes total _ _ (steps_keep total goes_on goes_on is_refused judge_walks _) _ structs desc v base p sound is refl)

    -- ---- what follows the fields

    -- a unit that belongs to no slot
    abbrev Outer : Found → Type 0
    Outer (Whole x n) = IsFramed x
    Outer Cut = Unit {0}

    outer_same : (i j : ℕ) (p : Progress) (f : Found) → Outer f → verdict i p (AfterFields k state.tail) f ≡ verdict j p (AfterFields k state.tail) f
    outer_same i j p f o = grind arith

    -- if all slots are passed, what may follow the fields is found, whatever their number
    pub after_read : (i : ℕ) (p : Progress) → drop i (total p.numbers) ≡ []
        → goes_on i p ≡ reads p (verdict 0 p (AfterFields k state.tail) (unit_at (AfterFields k state.tail) p.rest))
    after_read i p h = cc (
      so i p [] h,
      outer_same i 0 p (unit_at (AfterFields k state.tail) p.rest)
          (behind_each Outer p.rest (λ n x _ framed. if_both Outer (nat_lt (length p.rest) n) Cut (Whole x n) tt framed) state.tail (get_or p.rest 0 0)),
    )
