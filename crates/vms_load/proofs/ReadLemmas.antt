-- Readings that go on from call to call.
pub use Rattle.vms_frames.proofs.HeadLemmas.{err_is}
use Rattle.vms_load.proofs.Facade
use Facade.{◌≡◌, ℕ, ◌+◌, ◌-◌, ◌≤◌, List, drop, Option, Some, None, Result, Ok, Err, OnOk, refl, ap, ◌∙◌, arith, ◌<◌, ◌^◌}
use Facade.{[], IfErr, drop-drop, drop_all, Reason, Verdict, Goes, Faulty, Over, Reading, Refused, reading_after, Piece, Set, State, by_state, Seen, Good}
use Facade.{judge_seen, judge, advances, solid, Stand, ahead, Fails, AnswersSeen, FrameFault, Refusal, Onward, behind, LeadsOn, Refuses, Reads, ReadsOn}
use Facade.{ReadsBehind, IsBehind, Settles, concerning, IsRefused, reach, LoadFault, reading_on, one_unit, Intake, On, takes_none, reads_as, reads_both}
use Facade.{reads_last, course, fault_course, IsSpent, GoesOn, GoesSoFar, GoesBehind, Moves}
use Rattle.vms_io.specs.Reading.{Reads as Takes}
use Rattle.vms_frames.specs.Reads.{fault_course as frame_course}
use Rattle.vms_frames.specs.declared.fault.FrameFault.TheVariants as frames
use Rattle.vms_load.specs.declared.fault.LoadFault.TheVariants as faults

-- one unit of a reading
pub unit_of : (set : Set) (names : List (List ℕ)) (s : State) (place : ℕ) (rest : List ℕ)
    → reading_on (judge (by_state set names)) s place rest ≡ reading_after (reading_on (judge (by_state set names))) place rest (judge (by_state set names) s rest)
unit_of set names s place rest = one_unit (judge (by_state set names)) (advances (by_state set names) (λ s. solid set s s.spot)) s place rest

-- a fault is reported alike whatever would follow
pub still : {X Y : Type 0} (reading same : Option (Reading State)) (next : X → Onward) (other : Y → Onward) (at : ℕ) (to end : Stand) (rest : List ℕ) (left : Option (List ℕ)) (e : LoadFault)
    → reading ≡ same → Reads reading next at to rest left (Err e) → Reads same other at end rest left (Err e)
still reading same next other at to end rest left e said h = search arith

pub still_on : {X Y : Type 0} (old : Option (List ℕ)) (reading : Onward) (next : X → Onward) (other : Y → Onward) (from to end : Stand) (left : Option (List ℕ)) (e : LoadFault)
    → ReadsOn reading next from to old left (Err e) → ReadsOn reading other from end old left (Err e)
still_on old reading next other from to end left e h = grind arith

drop_between : (at to end : ℕ) (rest : List ℕ) → at ≤ to → to ≤ end → drop (end - to) (drop (to - at) rest) ≡ drop (end - at) rest
drop_between at to end rest h i = drop-drop (end - to) (to - at) rest ∙ ap (λ n. drop n rest) (omega arith)

-- a fault after bytes that were taken is one of the whole
pub still_behind : {X Y : Type 0} (reading same : Option (Reading State)) (next : X → Onward) (other : Y → Onward) (at to : ℕ) (end last : Stand) (rest left : List ℕ) (new : Option (List ℕ)) (e : LoadFault) → at ≤ to
    → left ≡ drop (to - at) rest → reading ≡ same → Reads same next to end left new (Err e) → Reads reading other at last rest new (Err e)
still_behind reading same next other at to end last rest left new (faults.Refused r) le there e h =
    let far : to - at + (r.at - to + h.long) ≡ r.at - at + h.long = omega arith in
    record {
      long = h.long;
      is = cc;
      from = omega arith;
      taken = h.taken ∙ ap (λ l. Some (drop (r.at - to + h.long) l)) there ∙ ap (λ l. Some l) (drop-drop (r.at - to + h.long) (to - at) rest ∙ ap (λ k. drop k rest) (omega arith));
    }
still_behind reading same next other at to end last rest left new faults.ReadFault le there e h = tt

-- from a place on to the next, and from there on
pub leads_on : (old mid new : Option (List ℕ)) (reading middle next : Onward) (from to end : Stand) → from.at ≤ to.at → to.at ≤ end.at
    → LeadsOn reading middle from to old mid → LeadsOn middle next to end mid new → LeadsOn reading next from end old new
leads_on old mid new reading middle next from to end h i l r = grind (arith, drop_between)

pub reads_on : {X : Type 0} (old mid new : Option (List ℕ)) (reading middle : Onward) (next : X → Onward) (from to end : Stand) (result : Result X LoadFault)
    → from.at ≤ to.at → OnOk result (to.at ≤ end.at)
    → LeadsOn reading middle from to old mid → ReadsOn middle next to end mid new result → ReadsOn reading next from end old new result
reads_on old mid new reading middle next from to end (Ok x) h i l r = leads_on old mid new reading middle (next x) from to end h i l r
reads_on None mid new reading middle next from to end (Err e) h i l r = tt
reads_on (Some rest) None new reading middle next from to end (Err e) h i l r = absurd l
reads_on (Some rest) (Some left) new reading middle next from to end (Err e) h i l r =
    still_behind (reading from.at (ahead from.held rest)) (middle to.at (ahead to.held left)) next next from.at to.at end end (ahead from.held rest) (ahead to.held left) new e h l.1 l.0 r

-- nothing was read
pub leads_here : (old : Option (List ℕ)) (next : Onward) (from : Stand) → LeadsOn next next from from old old
leads_here old next from = grind arith

-- ---- units

-- a verdict that goes on does so after n bytes
abbrev pub IsLong : ℕ → Verdict State → Type 0
IsLong n (Goes m s) = m ≡ n
IsLong n (Faulty section reason long) = Unit {0}
IsLong n (Over end) = ⊥

-- the unit at this place is refused
pub refused_here : (at : ℕ) (rest : List ℕ) (left : Option (List ℕ)) (section : Option ℕ) (reason : Reason) (n : ℕ) (r : Refusal) → r ≡ record { section = section; at = at; reason = reason } → left ≡ Some (drop n rest)
    → Refuses (Some (Refused at section reason n)) at rest left r
refused_here at rest left section reason n r same is =
    rw same (record { long = n; is = refl; from = omega arith; taken = is ∙ ap (λ k. Some (drop k rest)) (omega arith) })

abbrev refusal : Option ℕ → ℕ → Reason → Refusal
refusal section at reason = record { section = section; at = at; reason = reason }

-- what is seen is judged further after it
module _ (go : State → Onward) (section : Option ℕ) (it : Piece → ℕ → Verdict State) (at : ℕ) (rest : List ℕ) where
  abbrev pub judged : Seen → Option (Reading State)
  judged found = reading_after go at rest (judge_seen section it rest found)

  same_place : (place : ℕ) (reason why : Reason) → place ≡ at → reason ≡ why → refusal section place reason ≡ refusal section at why
  same_place place reason why e f = cc

  pub unit_fails : {Y : Type 0} (found : Seen) (left : Option (List ℕ)) (next : Y → Onward) (to : Stand) (place : ℕ) (reason : Reason)
      → place ≡ at → Fails found rest left reason → Reads (judged found) next at to rest left (Err (faults.Refused (refusal section place reason)))
  unit_fails found left next to place reason e a = grind (arith, refused_here, same_place, drop_all)

  pub unit_fault : {X Y : Type 0} (unit : X → Piece) (long : X → ℕ) (found : Seen) (left : Option (List ℕ)) (next : Y → Onward) (to : Stand) (fault : FrameFault)
      → AnswersSeen unit long found at rest left (Err fault) → Reads (judged found) next at to rest left (Err (concerning section fault))
  unit_fault unit long found left next to (frames.Refused place reason) a = unit_fails found left next to place reason a.0 a.1
  unit_fault unit long found left next to frames.ReadFault a = tt

  by_verdict : {Y : Type 0} (v : Verdict State) (n : ℕ) (to : Stand) (left : Option (List ℕ)) (next : Y → State) (result : Result Y LoadFault)
      → left ≡ Some (drop n rest) → to.at ≡ at + n → to.held ≡ None → Settles v at next n result → Reads (reading_after go at rest v) (λ y. go (next y)) at to rest left result
  by_verdict v n to left next result e far held h = grind (arith, refused_here)

  -- a whole unit was found and judged
  pub unit_settled : {Y : Type 0} (found : Seen) (x : Piece) (n : ℕ) (left : Option (List ℕ)) (to : Stand) (next : Y → State) (result : Result Y LoadFault)
      → (found ≡ Good x n) × (left ≡ Some (drop n rest)) → to.at ≡ at + n → to.held ≡ None → Settles (it x n) at next n result
      → Reads (judged found) (λ y. go (next y)) at to rest left result
  unit_settled found x n left to next result a far held h = rw a.0 (by_verdict (it x n) n to left next result a.1 far held h)

  behind_is : (v : Verdict State) (n : ℕ) → IsLong n v → reading_after go at rest v ≡ behind go at v (at + n) (drop n rest)
  behind_is v n h = grind arith

  -- a whole unit was found and is judged further: what follows it is read from the unit on
  pub unit_behind : {Y : Type 0} (found : Seen) (x : Piece) (n : ℕ) (next : Y → Onward) (to : Stand) (left : Option (List ℕ)) (result : Result Y LoadFault)
      → found ≡ Good x n → IsLong n (it x n) → ReadsBehind go (it x n) next at n rest to left result → Reads (judged found) next at to rest left result
  unit_behind found x n next to left result e h r = rw (ap judged e ∙ behind_is (it x n) n h) r

-- what follows a unit that was judged, from the unit on
pub read_behind : {X : Type 0} (go : State → Onward) (v : Verdict State) (next : X → Onward) (long at : ℕ) (bytes : List ℕ) (to end : Stand) (left new : Option (List ℕ)) (result : Result X LoadFault)
    → IsBehind long at bytes to left → OnOk result (to.at ≤ end.at) → ReadsOn (behind go at v) next to end left new result
    → ReadsBehind go v next at long bytes end new result
read_behind go v next long at bytes to end left new result b up r =
    let start : Stand = record { at = at; held = None } in
    let lead : LeadsOn (λ place rest. behind go at v (at + long) (drop long bytes)) (behind go at v) start to (Some bytes) (Some (drop long bytes)) =
    rw (b.place, b.held) (refl, ap (λ k. drop k bytes) (omega arith)) in
    reads_on (Some bytes) (Some (drop long bytes)) new (λ place rest. behind go at v (at + long) (drop long bytes)) (behind go at v) next start to end result (omega arith) up
    lead (rw b.taken at r)

-- ---- Calls of a load, one after the other.

spent_on : {X : Type 0} (from to end : Stand) (some most : ℕ) (result : Result X LoadFault) → reach from ≤ reach to → OnOk result (reach to ≤ reach end) → reach to + some ≤ reach from + most
    → (k n : ℕ) → k ≡ reach to - reach from → IsSpent to end some result n → IsSpent from end most result (k + n)
spent_on from to end some most result up more le k n e l = grind arith

spent_most : {X : Type 0} (from to : Stand) (some most : ℕ) (result : Result X LoadFault) (n : ℕ) → some ≤ most → IsSpent from to some result n → IsSpent from to most result n
spent_most from to some most result n le l = grind arith

-- whatever a call returns, it took the bytes by which the cursor has advanced
pub spent_by : {X : Type 0} (from to : Stand) (most : ℕ) (result : Result X LoadFault) (n : ℕ) → n ≡ reach to - reach from → n ≤ most → IsSpent from to most result n
spent_by from to most result n e le = grind arith

-- nothing was read
pub goes_here : (a : Intake) (next : Onward) (from : Stand) → a.given < 2 ^ 64 → GoesSoFar a a next next from from
goes_here a next from counted = record { bytes = []; takes = takes_none a counted; long = omega arith; says = λ more f. leads_here (Some more) next from; cause = tt }

-- a call that succeeds advances the cursor
advances_by : {X : Type 0} (from to : Stand) (due : ℕ) (after : X → ℕ) (result : Result X LoadFault) → Moves from to due after result → OnOk result (from.at ≤ to.at) × OnOk result (reach from ≤ reach to)
advances_by from to due after result m = search arith

-- what a call reads from the next place on, whatever it returns
pub goes_on : {X : Type 0} {a b c : Intake} (some most due : ℕ) (after : X → ℕ) (reading middle : Onward) (next : X → Onward) (from to end : Stand) (result : Result X LoadFault) → from.at ≤ to.at
    → reach from ≤ reach to → Moves to end due after result → reach to + some ≤ reach from + most → GoesSoFar a b reading middle from to → GoesOn b c some middle next to end result → GoesOn a c most reading next from end result
goes_on some most due after reading middle next from to end result h up moves le p q =
    let on = advances_by to end due after result moves in
    reads_both (λ k n e l. spent_on from to end some most result up on.1 le k n e l) (λ all rest left l r. reads_on (Some all) (Some rest) (Some left) reading middle next from to end result h on.0 l r) p q

-- a fault is reported alike whatever would follow
pub goes_still : (X Y : Type 0) {a b : Intake} (most : ℕ) (reading : Onward) (next : X → Onward) (other : Y → Onward) (from to end : Stand) (e : LoadFault) → GoesOn {X = X} a b most reading next from to (Err e) → GoesOn {X = Y} a b most reading other from end (Err e)
goes_still X Y most reading next other from to end e p = reads_as (λ n l. l) (λ rest left h. still_on {X = X} {Y = Y} (Some rest) reading next other from to end (Some left) e h) p

-- a unit that came was judged: the call goes on, or the unit is invalid
module _ {a b : Intake} {L : ℕ → Type 0} {P : List ℕ → List ℕ → Type 0} where
  pub goes_refused : (e : LoadFault) → IsRefused e → Takes On a b L P → Takes (fault_course e) a b L P
  goes_refused e ok p = grind (arith, reads_last)

  pub goes_judged : {X : Type 0} (result : Result X LoadFault) → IfErr result IsRefused → Takes On a b L P → Takes (course result) a b L P
  goes_judged result ok p = grind (arith, goes_refused)

-- a head that was judged, after which nothing is read
pub behind_here : {X : Type 0} (a : Intake) (most : ℕ) (go : State → Onward) (v : Verdict State) (next : X → Onward) (at long : ℕ) (from to : Stand) (e : LoadFault) → IsRefused e → a.given < 2 ^ 64
    → ((more bytes : List ℕ) → IsBehind long at bytes from (Some more) → ReadsBehind go v next at long bytes to (Some more) (Err e)) → GoesBehind a a most go v next at long from to (Err e)
behind_here a most go v next at long from to e ok counted h = search (arith, goes_refused, takes_none)

-- what a call reads after a unit, seen from that unit on
pub goes_behind : {X : Type 0} {a b : Intake} (go : State → Onward) (v : Verdict State) (next : X → Onward) (long at : ℕ) (to end : Stand) (result : Result X LoadFault) (some most due : ℕ) (after : X → ℕ) → Moves to end due after result → some ≤ most
    → (reading : Onward) (given : X → Onward) → ((rest left : List ℕ) → ReadsOn reading given to end (Some rest) (Some left) result → ReadsOn (behind go at v) next to end (Some rest) (Some left) result)
    → GoesOn a b some reading given to end result → GoesBehind a b most go v next at long to end result
goes_behind go v next long at to end result some most due after moves le reading given turns p =
    reads_as (λ n l. spent_most to end some most result n le l)
    (λ rest left r bytes b. read_behind go v next long at bytes to end (Some rest) (Some left) result b (advances_by to end due after result moves).0 (turns rest left r)) p

-- a fault of a cursor, with the device concerned
pub same_course : (section : Option ℕ) (e : FrameFault) → frame_course e ≡ fault_course (concerning section e)
same_course section e = grind arith
