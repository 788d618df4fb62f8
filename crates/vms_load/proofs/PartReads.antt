-- The fields of a part: its steps take what the structural reader takes, and the judge reads the same.
use Rattle.vms_load.proofs.Facade
use Facade.{◌≡◌, ℕ, ◌+◌, ◌≤◌, List, [], ◌∷◌, ◌++◌, length, take, append_assoc, append-nil, ℤ, Option, Some, Ok, Err, ◌||◌}
use Facade.{◌==◌, refl, sym, ap, ◌∙◌, subst, ◌-◌, ◌<◌, drop, None, Result, IfSome, OnOk, arith, eq-eqb, or_parts, drop-drop, drop_all}
use Facade.{slice_get, slice_get-get_or, ⊎_elim, cases_lt, Kind, Desc, Set, Device, has_cell, Image, Slot, Number, meanings, desc_slots, Taken, Progress}
use Facade.{takers, take_desc, on, take_slot, IsSound, AreSound, IsAbove, desc_above, meanings_above, SameBelow, same_refl, same_trans, Keeps, Keeping, Gives}
use Facade.{ComesTo, IsFrom, slot_keeps, set_desc_comes, FrameFault, WalkStep, step_of, steps_of, steps_append, exceeds_least, TakesAs, slot_of, take_steps}
use Facade.{last_numbers, numbers_then, take_append, last_taken, Told, from, IsFilled, Refused, part_slots, State, Inside, by_state, judge, reading_on}
use Facade.{body_read, after_read, Stand, tail_of, IsGood, Leaves, desc_leaves, device_at, sub_at, Reads, ReadsOn, concerning, IsIn, IsOpen, part_desc}
use Facade.{part_base, state_in, in_fields, after_fields, Section}
use Rattle.vms_spec.specs.Taking.{Refusal}
use Rattle.vms_stream.proofs.Bodies.{Reads as ReadsBody}
use Rattle.vms_frames.specs.declared.fault.FrameFault.TheVariants as faults

-- a step takes what its slot takes: the least of the capacities that a number counts decides
slot_taken : (x : Slot) (p : Progress) → take_slot (slot_of (step_of x)) p ≡ take_slot x p
slot_taken x p = grind (arith, exceeds_least)

-- ---- steps leave the numbers below them

first_above : (cell c : ℕ) (kind : Kind) (caps : List ℕ) (xs : List Slot) → IsAbove cell (Number c kind caps ∷ xs) → cell ≤ c
first_above cell c kind caps xs above =
    ⊎_elim (λ (lt : c < cell). let t = above.below c lt in let u = ap (λ b. b || has_cell xs c) (eq-eqb c c refl) in cc)
    (λ (ge : cell ≤ c). ge) (cases_lt c cell)

rest_above : (cell : ℕ) (x : Slot) (xs : List Slot) → IsAbove cell (x ∷ xs) → IsAbove cell xs
rest_above cell (Number c kind caps) xs above = record { below = λ k lt. (or_parts (c == k) (has_cell xs k) (above.below k lt)).1 }
rest_above cell _ xs above = record { below = λ k lt. above.below k lt }

first_from : (cell : ℕ) (x : Slot) (xs : List Slot) → IsAbove cell (x ∷ xs) → IsFrom cell x
first_from cell x xs above = grind (arith, first_above)

last_below : (cell : ℕ) (xs : List Slot) (p : Progress) → IsAbove cell xs → SameBelow cell p.numbers (last_numbers (steps_of xs) p)
last_below cell [] p above = same_refl cell p.numbers
last_below cell (x ∷ xs) p above =
    go (take_slot (slot_of (step_of x)) p) (rw (slot_taken x p) (slot_keeps cell x p (first_from cell x xs above))) (λ q. last_below cell xs q (rest_above cell x xs above))
  where
    go : (t : Taken) → Keeps cell p.numbers t → ((q : Progress) → SameBelow cell q.numbers (last_numbers (steps_of xs) q)) → SameBelow cell p.numbers (numbers_then t p.numbers (last_numbers (steps_of xs)))
    go (Ok q) k h = same_trans cell p.numbers q.numbers (last_numbers (steps_of xs) q) k.kept (h q)
    go (Err e) k h = same_refl cell p.numbers

-- ---- the slots by the numbers at the end

module _ (set : Set) (structs : AreSound set.structs) (d : Desc) (sound : IsSound d) (v base : ℕ) where
  abbrev slots : List ℤ → List Slot
  slots m = desc_slots (meanings set.structs (length set.structs)) d v m base

  module _ (n : List ℤ) (p : Progress) (ends : n ≡ last_numbers (steps_of (slots n)) p) where
    abbrev Holds : ℕ → List Slot → Progress → Type 0
    Holds cell done q = (take_steps (steps_of done) p ≡ Ok q) × SameBelow cell q.numbers n

    abbrev Fails : Refusal → Type 0
    Fails e = take_steps (steps_of (slots n)) p ≡ Err e

    -- the numbers below the remaining slots are final
    later : (cell : ℕ) (done rest : List Slot) (q : Progress) → slots n ≡ done ++ rest → take_steps (steps_of done) p ≡ Ok q → IsAbove cell rest → SameBelow cell q.numbers n
    later cell done rest q e t above =
        let parts : steps_of (slots n) ≡ steps_of done ++ steps_of rest = cc (steps_append done rest) in
        subst (SameBelow cell q.numbers) (sym (cc (last_taken (steps_of done) (steps_of rest) p q t))) (last_below cell rest q above)

    -- the next slot
    next : (slot : Slot) (further : ℕ) (done rest : List Slot) (q : Progress) (t : Taken) → take_slot (slot_of (step_of slot)) q ≡ t → take_steps (steps_of done) p ≡ Ok q → slots n ≡ done ++ (slot ∷ rest)
        → IsAbove further rest → Gives slots Holds Fails further (done ++ slot ∷ []) t
    next slot further done rest q (Ok r) e h split above =
        let step : take_steps (steps_of (done ++ slot ∷ [])) p ≡ Ok r =
        cc (steps_append done (slot ∷ []), take_append (steps_of done) (step_of slot ∷ []) p) in
        (step, later further (done ++ slot ∷ []) rest r (split ∙ sym (append_assoc done (slot ∷ []) rest)) step above)
    next slot further done rest q (Err x) e h split above = cc (steps_append done (slot ∷ rest), take_append (steps_of done) (step_of slot ∷ steps_of rest) p)

    keeping : Keeping slots Holds Fails
    keeping = record {
      less = λ cell further done left q le up l. (l.holds.0, later further done (left n) q (l.split n l.holds.1) l.holds.0 (up n));
      number = λ cell kind caps done left q up l.
          next (Number cell kind caps) (cell + 1) done (left n) q (take_slot (Number cell kind caps) q) (slot_taken (Number cell kind caps) q) l.holds.0 (l.split n l.holds.1) (up n);
      other = λ cell slot done left q o up l. next slot cell done (left n) q (take_slot slot q) (slot_taken slot q) l.holds.0 (l.split n l.holds.1) (up n);
    }

    ended : (cell : ℕ) (t : Taken) → ComesTo slots Holds Fails cell (λ m. []) t → take_steps (steps_of (slots n)) p ≡ t
    ended cell (Err e) c = c
    ended cell (Ok q) c = cc (c.1.split n c.1.holds.1, append-nil c.0, c.1.holds.0)

    steps_taken : take_steps (steps_of (slots n)) p ≡ take_desc (takers set.structs (length set.structs)) d v base p
    steps_taken =
        let above = desc_above (meanings set.structs (length set.structs)) (meanings_above set.structs (length set.structs)) d v n base in
        let c = set_desc_comes slots Holds Fails keeping set.structs structs d v base p sound (λ m. refl) (refl, later base [] (slots n) p refl refl above) in
        ended _ (take_desc (takers set.structs (length set.structs)) d v base p) c.comes

  -- ---- by what a walk says

  abbrev part_taken : Progress → Taken
  part_taken p = take_desc (takers set.structs (length set.structs)) d v base p

  ok_numbers : (xs : List WalkStep) (p q : Progress) → take_steps xs p ≡ Ok q → q.numbers ≡ last_numbers xs p
  ok_numbers xs p q e = sym (rw (sym (append-nil xs)) (last_taken xs [] p q e))

  ends_ok : (xs : List WalkStep) (p : Progress) (numbers : List ℤ) (place : ℕ) (left : Option (List ℕ)) (t : Taken) → take_steps xs p ≡ t → TakesAs t numbers place left (Ok tt) → numbers ≡ last_numbers xs p
  ends_ok xs p numbers place left t e h = grind (arith, ok_numbers)

  pub part_read : (a b : Told) (r : Result (Unit {0}) FrameFault) (rest left : List ℕ) → IsFilled (steps_of (slots b.image.numbers)) a r b rest left → TakesAs (part_taken (from a rest)) b.image.numbers b.place (Some left) r
  part_read a b (Ok x) rest left h =
      let n = b.image.numbers in
      let ends = ends_ok (steps_of (slots n)) (from a rest) n b.place (Some left) (take_steps (steps_of (slots n)) (from a rest)) refl h.0 in
      rw (steps_taken n (from a rest) ends) at h.0
  part_read a b (Err (faults.Refused at reason)) rest left h = rw (steps_taken b.image.numbers (from a rest) h.1) at h.0
  part_read a b (Err faults.ReadFault) rest left h = always (part_taken (from a rest))
    where
      always : (t : Taken) → TakesAs t b.image.numbers b.place (Some left) (Err faults.ReadFault)
      always _ = tt

-- ---- What a reader of a part takes is what the judge reads there.

pub open_in : (d : Device) (image : Image) (sub : Option ℕ) (v : ℕ) → IsOpen d image sub v → IsIn d sub
open_in d image sub v h = grind arith

-- the fault of a body, or none
abbrev pub concerns : Option ℕ → Result (Unit {0}) FrameFault → Result (Unit {0}) Rattle.vms_load.specs.declared.fault.LoadFault.LoadFault
concerns section (Ok x) = Ok x
concerns section (Err fault) = Err (concerning section fault)

module _ (set : Set) (good : IsGood set) (section : Section) (here : section.device < length set.devices) (sub : Option ℕ) (v : ℕ) where
  abbrev device : Device
  device = device_at set section.device

  there : slice_get set.devices section.device ≡ Some device
  there = slice_get-get_or set.devices section.device _ here

  sub_there : (j : ℕ) → j < length device.subs → slice_get device.subs j ≡ Some (sub_at device j)
  sub_there j lt = slice_get-get_or device.subs j _ lt

  part_sound : (o : Option ℕ) → IsIn device o → IsSound (part_desc device o)
  part_sound None h = good.devices section.device device there
  part_sound (Some j) h = good.subs section.device j device (sub_at device j) there (sub_there j h)

  module _ (names : List (List ℕ)) (state : State) (image : Image) where
    slots_are : (o : Option ℕ) → IsOpen device image o v → (m : List ℤ)
        → part_slots set (Some device) (record image { numbers = m }) o ≡ desc_slots (meanings set.structs (length set.structs)) (part_desc device o) v m (part_base set device o)
    slots_are o h m = grind (arith, sub_there)

    -- the state before the section's image is put
    abbrev outer : State
    outer = record state { tail = tail_of section.tail }

    abbrev start : ℕ → List ℕ → Progress
    start place rest = record { numbers = image.numbers; place = place; rest = rest }

    abbrev taken : ℕ → List ℕ → Taken
    taken place rest = take_desc (takers set.structs (length set.structs)) (part_desc device sub) v (part_base set device sub) (start place rest)

    fields_are : (room : section.device < length state.images) → IsOpen device image sub v → (place : ℕ) (rest : List ℕ)
        → ReadsBody set names outer device image section.device section.id sub there room 0 (start place rest) (taken place rest)
    fields_are room open' place rest =
        body_read set names outer device image section.device section.id sub there room good.structs (part_desc device sub) v (part_base set device sub) (part_sound sub (open_in device image sub v open'))
        (slots_are sub open') (start place rest)

    -- after all slots
    all_done : section.device < length state.images → (done : ℕ) (q : Progress) → drop done (part_slots set (Some device) (record image { numbers = q.numbers }) sub) ≡ []
        → reading_on (judge (by_state set names)) (state_in state section (record image { numbers = q.numbers }) (Inside section.device section.id sub done)) q.place q.rest
        ≡ after_fields set names state section sub (record image { numbers = q.numbers }) q.place q.rest
    all_done room done q h =
        let all = part_slots set (Some device) (record image { numbers = q.numbers }) sub in
        after_read set names outer device image section.device section.id sub there room done q h
        ∙ sym (after_read set names outer device image section.device section.id sub there room (length all) q (drop_all (length all) all (omega arith)))

    -- the rest after what was taken, or from the offending unit on
    front_left : IsIn device sub → (place : ℕ) (rest : List ℕ) (t : Taken) → taken place rest ≡ t → Leaves place rest t
    front_left inside place rest t e = rw e at (desc_leaves set.structs good.structs (part_desc device sub) v (part_base set device sub) (start place rest) (part_sound sub inside))

    by_taken : (room : section.device < length state.images) → IsIn device sub → (place : ℕ) (rest : List ℕ) (numbers : List ℤ) (to : Stand) (left : Option (List ℕ)) (result : Result (Unit {0}) FrameFault)
        → (t : Taken) → taken place rest ≡ t → ReadsBody set names outer device image section.device section.id sub there room 0 (start place rest) t → OnOk result (to.held ≡ None) → TakesAs t numbers to.at left result
        → Reads (in_fields set names state section sub image place rest) (λ _. after_fields set names state section sub (record image { numbers = numbers })) place to rest left (concerns (Some section.device) result)
    by_taken room inside place rest numbers to left (Ok x) (Ok q) e r held h =
        rw (h.2, h.0, h.1, held) (r.2 ∙ all_done room r.0 q r.1, (front_left inside place rest (Ok q) e).is)
    by_taken room inside place rest numbers to left (Err (faults.Refused p reason)) (Err r) e b held h =
        let l = front_left inside place rest (Err r) e in
        let same : r.place - place + r.long ≡ p - place + r.long = omega arith in
        record { long = r.long; is = rw (h.0, h.1) b; from = omega arith; taken = cc (drop-drop r.long (r.place - place) rest) }
    by_taken room inside place rest numbers to left (Err faults.ReadFault) t e b held h = tt
    by_taken room inside place rest numbers to left _ _ e b held h = absurd h

    -- the fields of a part are read as they are taken, by what the code has of the set
    pub fields_answer : (d : Desc) (base : ℕ) → d ≡ part_desc device sub → base ≡ part_base set device sub
        → section.device < length state.images → IsOpen device image sub v → (from : Stand) (numbers : List ℤ) (new : Image) (to : Stand)
        (old left : Option (List ℕ)) (result : Result (Unit {0}) FrameFault) → new ≡ record image { numbers = numbers } → from.held ≡ None → OnOk result (to.held ≡ None)
        → IfSome old (λ rest. TakesAs (take_desc (takers set.structs (length set.structs)) d v base (start from.at rest)) numbers to.at left result)
        → ReadsOn (in_fields set names state section sub image) (λ _. after_fields set names state section sub new) from to old left (concerns (Some section.device) result)
    fields_answer d base a b room open' from numbers new to None left result is before held h = tt
    fields_answer d base a b room open' from numbers new to (Some rest) left result is before held h =
        rw (before, is) (by_taken room (open_in device image sub v open') from.at rest numbers to left result (taken from.at rest) refl (fields_are room open' from.at rest) held
        (rw (a, b) at h))
