-- A whole stream, as the judge reads it: the units before, between and after its sections.
use Rattle.vms_load.proofs.{PartReads.concerns, AfterReads.head_unit, AfterReads.head_long, AfterReads.section_long}
use Rattle.vms_load.proofs.Facade
use Facade.{LoadFault, Staged, ◌≡◌, ℕ, ◌+◌, ◌-◌, ◌≤◌, true, false, List, length, take, drop, Option, Some, None, Result, Ok, Err, IfSome}
use Facade.{OnOk, refl, sym, ap, ◌∙◌, arith, [], ◌∷◌, drop-drop, Set, Reason, number_at, bytes_at, Piece, Magic, Version, Verdict, Goes, Reading}
use Facade.{reading_after, Accepted, Refused, reading_on, AMagic, AVersion, AfterEnd, alone, needs, text_at, trailer_at, judge, reading, ask, judge_seen, Seen}
use Facade.{Good, seen, seen_by, seen_in, State, Spot, Before, Headed, Free, by_state, Ended, at_start, nothing_known, judged_holds, Head, Stand, ahead, due_of}
use Facade.{unit_of_step, ReadsBetween, AnswersSeen, AnswersAfter, AnswersHead, Fails, AnswersEnd, ReadsEnd, Between, Step, FrameFault, Onward, Reads, ReadsOn}
use Facade.{LeadsOn, ReadsBehind, IsBehind, Settles, concerning, state_of, spot_of, is_first, is_configured, ReadsAll}
use Rattle.vms_load.proofs.ReadLemmas.{unit_fault, unit_settled, unit_behind, reads_on, unit_of, still_behind, unit_fails}
use Rattle.vms_stream.specs.{Dues.Between as IsBetween, State.Over}
use Rattle.vms_frames.specs.Calls.{step_long}
use Rattle.vms_frames.specs.declared.units.Step.TheVariants as steps
use Rattle.vms_frames.specs.declared.fault.FrameFault.TheVariants as frames
use Rattle.vms_load.specs.declared.fault.LoadFault.TheVariants as faults

due_is : (between : Between) → IsBetween (is_first between) (is_configured between) ≡ due_of between
due_is between = grind arith

module _ (set : Set) (names : List (List ℕ)) where
  abbrev go : State → Onward
  go = reading_on (judge (by_state set names))

  -- ---- between sections

  module _ (staged : Staged) (between : Between) where
    abbrev state : State
    state = state_of set staged (spot_of between)

    between_is : (place : ℕ) (rest : List ℕ) → go state place rest ≡ reading_after go place rest (judge_seen None (ask set names state) rest (seen (due_of between) nothing_known rest))
    between_is place rest =
        unit_of set names state place rest
        ∙ ap (reading_after go place rest) (judged_holds set names state rest refl refl refl ∙ ap (λ d. judge_seen None (ask set names state) rest (seen d nothing_known rest)) (due_is between))

    pub turn_fault : {Y : Type 0} (from to : Stand) (old left : Option (List ℕ)) (next : Y → Onward) (fault : FrameFault)
        → ReadsBetween between from old left (Err fault) → ReadsOn (go state) next from to old left (Err (concerning None fault))
    turn_fault from to None left next fault a = tt
    turn_fault from to (Some rest) left next fault a =
        let bytes = ahead from.held rest in
        rw (between_is from.at bytes) (unit_fault go None (ask set names state) from.at bytes unit_of_step step_long (seen (due_of between) nothing_known bytes) left next to fault a)

    pub turn_settled : {Y : Type 0} (from to : Stand) (old left : Option (List ℕ)) (step : Step) (next : Y → State) (result : Result Y LoadFault)
        → ReadsBetween between from old left (Ok step) → to.at ≡ from.at + step_long step → to.held ≡ None
        → Settles (ask set names state (unit_of_step step) (step_long step)) from.at next (step_long step) result → ReadsOn (go state) (λ y. go (next y)) from to old left result
    turn_settled from to None left step next result a far free h = tt
    turn_settled from to (Some rest) left step next result a far free h =
        let bytes = ahead from.held rest in
        rw (between_is from.at bytes) (unit_settled go None (ask set names state) from.at bytes (seen (due_of between) nothing_known bytes) (unit_of_step step) (step_long step) left to next result a far free h)

    -- a section, from its head on
    pub turn_section : (from mid end : Stand) (old middle new : Option (List ℕ)) (head : Head) (place : ℕ) (final : State) (result : Result (Unit {0}) LoadFault) → length staged.came.items ≡ length set.devices
        → ReadsBetween between from old middle (Ok (steps.Section head)) → mid.at ≡ from.at + head_long head → mid.held ≡ None → place ≡ from.at
        → ((bytes : List ℕ) → IsBehind (head_long head) place bytes mid middle → ReadsBehind go (ask set names state (head_unit head) (head_long head)) (λ _. go final) place (head_long head) bytes end new result)
        → ReadsOn (go state) (λ _. go final) from end old new result
    turn_section from mid end old middle new head place final result came a far free is r = search (arith, between_is, unit_behind, section_long)

-- ---- the stream head

module _ (set : Set) (names : List (List ℕ)) (state : State) where
  abbrev at_spot : Spot → State
  at_spot spot = record state { spot = spot }

  -- no row needs more for a unit of the head
  abbrev asked : Spot → Piece → ℕ → Verdict State
  asked spot = ask set names (at_spot spot)

  magic_is : (place : ℕ) (rest : List ℕ) → go set names (at_spot Before) place rest ≡ reading_after (go set names) place rest (judge_seen None (asked Before) rest (seen AMagic nothing_known rest))
  magic_is place rest = cc (unit_of set names (at_spot Before) place rest, judged_holds set names (at_spot Before) rest refl refl refl)

  version_is : (place : ℕ) (rest : List ℕ) → go set names (at_spot Headed) place rest ≡ reading_after (go set names) place rest (judge_seen None (asked Headed) rest (seen AVersion nothing_known rest))
  version_is place rest = cc (unit_of set names (at_spot Headed) place rest, judged_holds set names (at_spot Headed) rest refl refl refl)

  abbrev onward : Unit {0} → Onward
  onward x = go set names (at_spot (Free true false))

  -- a magic that is whole
  abbrev IsMagic : List ℕ → Seen → Type 0
  IsMagic rest (Good x n) = (x ≡ Magic (take 4 rest)) × (n ≡ 4)
  IsMagic rest _ = Unit {0}

  is_magic : (rest : List ℕ) → IsMagic rest (seen AMagic nothing_known rest)
  is_magic rest = grind (arith, seen_by, alone)

  abbrev by_seen : ℕ → List ℕ → Seen → Option (Reading State)
  by_seen place rest found = reading_after (go set names) place rest (judge_seen None (asked Before) rest found)

  module _ (place : ℕ) (to : Stand) (rest : List ℕ) (left : Option (List ℕ)) where
    abbrev later : List ℕ
    later = drop 4 rest

    -- what is read from the version on, seen from the magic
    from_magic : (result : Result (Unit {0}) LoadFault) → OnOk result (place + 4 ≤ to.at)
        → Reads (go set names (at_spot Headed) (place + 4) later) onward (place + 4) to later left result
        → Reads (go set names (at_spot Headed) (place + 4) later) onward place to rest left result
    from_magic result up r =
        reads_on {X = Unit {0}} (Some rest) (Some later) left (λ p l. go set names (at_spot Headed) (place + 4) (drop 4 l)) (go set names (at_spot Headed)) onward
        (record { at = place; held = None }) (record { at = place + 4; held = None }) to result (omega arith) up
        (let four : 4 ≡ (place + 4) - place = omega arith in (refl, ap (λ n. drop n rest) four)) r

    -- the version, after the magic
    version_read : (result : Result (Unit {0}) FrameFault) → OnOk result (to.at ≡ place + 8) → OnOk result (to.held ≡ None)
        → AnswersSeen (λ _. Version (number_at 4 0 later)) (λ _. 4) (seen AVersion nothing_known later) (place + 4) later left result
        → Reads (go set names (at_spot Headed) (place + 4) later) onward place to rest left (concerns None result)
    version_read (Ok x) far free a =
        from_magic (Ok x) (omega arith) (rw (version_is (place + 4) later) (unit_settled (go set names) None (asked Headed) (place + 4) later {Y = Unit {0}}
        (seen AVersion nothing_known later) (Version (number_at 4 0 later)) 4 left to (λ y. at_spot (Free true false)) (Ok x) a (omega arith) free (refl, refl)))
    version_read (Err fault) far free a =
        from_magic (Err (concerning None fault)) tt (rw (version_is (place + 4) later) (unit_fault (go set names) None (asked Headed) (place + 4) later {X = Unit {0}}
        (λ _. Version (number_at 4 0 later)) (λ _. 4) (seen AVersion nothing_known later) left onward to fault a))

    by_magic : (result : Result (Unit {0}) FrameFault) (found : Seen) → IsMagic rest found → OnOk result (to.at ≡ place + 8) → OnOk result (to.held ≡ None)
        → AnswersAfter found place rest left result → Reads (by_seen place rest found) onward place to rest left (concerns None result)
    by_magic result (Good x n) is far free a = let goes : asked Before x n ≡ Goes 4 (at_spot Headed) = cc in rw goes (version_read result far free a)
    by_magic (Ok x) _ is far free a = let h = a.0 in cc
    by_magic (Err fault) found is far free a =
        unit_fault (go set names) None (asked Before) place rest {X = Unit {0}} (λ _. Magic (take 4 rest)) (λ _. 4) found left onward to fault a

  pub head_read : (from to : Stand) (old left : Option (List ℕ)) (result : Result (Unit {0}) FrameFault) → from.held ≡ None → OnOk result (to.at ≡ from.at + 8) → OnOk result (to.held ≡ None)
      → IfSome old (λ rest. AnswersHead from.at rest left result) → ReadsOn (go set names (at_spot Before)) onward from to old left (concerns None result)
  head_read from to None left result held far free a = tt
  head_read from to (Some rest) left result held far free a =
      rw (held, magic_is from.at rest) (by_magic from.at to rest left result (seen AMagic nothing_known rest) (is_magic rest) far free a)

-- ---- A whole stream, as the judge reads it.

-- the place after the stream, or the fault of what follows the end mark
abbrev pub closes_at : ℕ → Result (Unit {0}) FrameFault → Result ℕ LoadFault
closes_at end (Ok x) = Ok end
closes_at end (Err fault) = Err (concerning None fault)

module _ (set : Set) (names : List (List ℕ)) where
  abbrev goes : State → Onward
  goes = reading_on (judge (by_state set names))

  abbrev whole : List ℕ → Option (Reading State)
  whole input = reading (by_state set names) (at_start set) input

  whole_is : (input : List ℕ) → whole input ≡ goes (at_start set) 0 input
  unfolding reading
  whole_is input = refl

  all_fault : (x : Option (Reading State)) (staged : Staged) (input : List ℕ) (left : Option (List ℕ)) → ReadsAll set x staged input left (Err faults.ReadFault)
  all_fault x staged input left = grind arith

  -- a refusal is the whole's
  all_refused : {X : Type 0} (x : Option (Reading State)) (staged : Staged) (input : List ℕ) (left : Option (List ℕ)) (next : X → Onward) (from : ℕ) (to : Stand) (e : LoadFault) → from ≡ 0
      → Reads x next from to input left (Err e) → ReadsAll set x staged input left (Err e)
  all_refused x staged input left next from to e zero h = grind (arith, all_fault)

  -- the reading of a whole input, if the cursor holds nothing
  begins : (state : State) (from : Stand) (input : List ℕ) → state ≡ at_start set → from.at ≡ 0 → from.held ≡ None → goes state from.at (ahead from.held input) ≡ whole input
  begins state from input is zero held = cc (whole_is input)

  -- the stream was refused before its end
  pub refused_before : {X : Type 0} (staged : Staged) (state : State) (old left : Option (List ℕ)) (next : X → Onward) (from to : Stand) (e : LoadFault) → state ≡ at_start set → from.at ≡ 0 → from.held ≡ None
      → ReadsOn (goes state) next from to old left (Err e) → IfSome old (λ input. ReadsAll set (whole input) staged input left (Err e))
  refused_before staged state None left next from to e is zero held h = tt
  refused_before {X} staged state (Some input) left next from to e is zero held h = grind (arith, all_refused, begins)

  module _ (staged : Staged) where
    abbrev ended : State
    ended = state_of set staged Ended

    -- after a description
    abbrev closed_state : State
    closed_state = state_of set staged Over

    trailer_is : (place b : ℕ) (more : List ℕ) → goes ended place (b ∷ more) ≡ reading_after goes place (b ∷ more) (judge_seen None (ask set names ended) (b ∷ more) (seen AfterEnd nothing_known (b ∷ more)))
    trailer_is place b more = cc (unit_of set names ended place (b ∷ more), judged_holds set names ended (b ∷ more) refl refl refl)

    -- at the end of input nothing more is due
    end_is : (place : ℕ) → goes ended place [] ≡ Some (Accepted place ended)
    unfolding trailer_at
    end_is place = unit_of set names ended place []

    -- no row needs more for a unit after the end mark
    abbrev IsLast : Seen → Type 0
    IsLast (Good x n) = ask set names ended x n ≡ Goes n closed_state
    IsLast _ = Unit {0}

    line_last : (x : Piece) (n : ℕ) → ask set names ended x n ≡ Goes n closed_state → (o : Option (Option ℕ × Reason)) → IsLast (seen_by o x n)
    line_last x n h o = grind arith

    needs_last : (n : ℕ) (rest : List ℕ) (x : Piece) → ask set names ended x n ≡ Goes n closed_state → IsLast (seen_in AfterEnd nothing_known (needs n rest x))
    needs_last n rest x h = grind (arith, line_last, alone)

    is_last : (rest : List ℕ) → IsLast (seen AfterEnd nothing_known rest)
    unfolding trailer_at
    is_last rest = grind (arith, bytes_at, needs_last, text_at)

    accepts : (place n end : ℕ) (input rest : List ℕ) (left : Option (List ℕ)) (state : State) (x : Option (Reading State)) → x ≡ Some (Accepted (place + n) state) → state.machine ≡ ended.machine → state.images ≡ ended.images
        → end ≡ place + n → left ≡ Some (drop n rest) → rest ≡ drop place input → ReadsAll set x staged input left (Ok end)
    accepts place n end input rest left state x e m i far l there =
        rw e (sym far, m, i, l ∙ ap (λ r. Some (drop n r)) there ∙ ap (λ r. Some r) (drop-drop n place input ∙ ap (λ k. drop k input) (sym far)))

    abbrev by_rest : ℕ → List ℕ → Seen → Option (Reading State)
    by_rest place rest found = reading_after goes place rest (judge_seen None (ask set names ended) rest found)

    closed_fault : (place end : ℕ) (input rest : List ℕ) (left : Option (List ℕ)) (at : ℕ) (reason : Reason) (f : Seen) → rest ≡ drop place input → at ≡ place → Fails f rest left reason
        → ReadsAll set (by_rest place rest f) staged input left (Err (concerning None (frames.Refused at reason)))
    closed_fault place end input rest left at reason f there here h =
        let judged = by_rest place rest f in
        let next : Unit {0} → Onward = λ x. goes ended in
        let to : Stand = record { at = end; held = None } in
        let e = concerning None (frames.Refused at reason) in
        all_refused judged staged input left next 0 to e refl
        (still_behind judged judged next next 0 place to to input rest left e (omega arith) (there ∙ ap (λ k. drop k input) (omega arith)) refl
        (unit_fails goes None (ask set names ended) place rest f left next to at reason here h))

    by_last : (place end b : ℕ) (input more : List ℕ) (left : Option (List ℕ)) (result : Result (Unit {0}) FrameFault) (f : Seen) → IsLast f → b ∷ more ≡ drop place input
        → AnswersEnd (b ∷ more) f place end left result → ReadsAll set (by_rest place (b ∷ more) f) staged input left (closes_at end result)
    by_last place end b input more left result f is there h = grind (arith, accepts, unit_of, closed_fault, all_fault)

    closed_at : (place end : ℕ) (input rest : List ℕ) (left : Option (List ℕ)) (result : Result (Unit {0}) FrameFault) → rest ≡ drop place input → AnswersEnd rest (seen AfterEnd nothing_known rest) place end left result
        → ReadsAll set (goes ended place rest) staged input left (closes_at end result)
    closed_at place end input [] left (Ok x) there h = grind (arith, accepts, end_is)
    closed_at place end input [] left (Err (frames.Refused at reason)) there h = absurd h
    closed_at place end input [] left (Err frames.ReadFault) there h = all_fault (goes ended place []) staged input left
    closed_at place end input (b ∷ more) left result there h =
        rw (trailer_is place b more) (by_last place end b input more left result (seen AfterEnd nothing_known (b ∷ more)) (is_last (b ∷ more)) there h)

    -- the stream ends here, or what follows its end mark is invalid
    pub closed : (start : State) (old mid left : Option (List ℕ)) (from to : Stand) (end : ℕ) (result : Result (Unit {0}) FrameFault) → start ≡ at_start set → from.at ≡ 0 → from.held ≡ None → to.held ≡ None
        → LeadsOn (goes start) (goes ended) from to old mid → ReadsEnd to.at end mid left result
        → IfSome old (λ input. ReadsAll set (whole input) staged input left (closes_at end result))
    closed start old mid left from to end result is zero held free l h = grind (arith, begins, closed_at)
