-- By an access no byte leaves a board.
use Rattle.vmstate_board_c.proofs.Facade
use Facade.{ℕ, ◌-◌, ◌≤◌, ◌==◌, Bool, true, false, Option, ap, ◌∙◌, append-nil, arith, inl, inr, nat_tests, nat_lt, is_some, IfSome}
use Facade.{MatchOption, either, State, acted, after_act, step, Answer, Event, Read, Write, Byte, Wait, Wire, Ack, ClockState, saying, follows_line, IsAccess}
use Facade.{Reaches, acts, acts_after, event_at, said, time_to, now_of, step_of, CAnswer, AnyBoard, Isa, Clock}
use Rattle.std.proofs.Common.{◌≡◌, List, [], ◌++◌, None, Some, refl, sym}
use Rattle.dev_clock.specs.Step.{acted as clock_acted, saying as clock_saying, step as clock_step}

silent-isa : (event : Event) (m : State) → IsAccess event → (step event m).0.sent.items ≡ []
unfolding step after_act acted
silent-isa (Read port) m h = refl
silent-isa (Write port value) m h = refl
silent-isa (Byte value) m h = refl
silent-isa (Wait ns) m h = absurd h
silent-isa (Wire input up) m h = refl
silent-isa Ack m h = refl

-- an answer without bytes
abbrev IsSilent : Answer × ClockState → Type 0
IsSilent done = done.0.sent.items ≡ []

silent-acted : (event : Event) (m : ClockState) → IsAccess event → IsSilent (clock_acted event m)
unfolding clock_acted clock_saying
silent-acted (Read port) m h = either IsSilent _ _ _ refl (silent-isa (Read port) m.board tt)
silent-acted (Write port value) m h = either IsSilent _ _ _ refl (silent-isa (Write port value) m.board tt)
silent-acted (Byte value) m h = silent-isa (Byte value) m.board tt
silent-acted (Wait ns) m h = absurd h
silent-acted (Wire input up) m h = either IsSilent _ _ _ refl (silent-isa (Wire input up) m.board tt)
silent-acted Ack m h = silent-isa Ack m.board tt

silent-clock : (event : Event) (m : ClockState) → IsAccess event → (clock_step event m).0.sent.items ≡ []
unfolding clock_step follows_line
silent-clock event m h = silent-acted event m h

silent : (event : Event) (board : AnyBoard) → IsAccess event → (step_of event board).0.sent.items ≡ []
silent event (Isa board) h = silent-isa event board.state h
silent event (Clock board) h = silent-clock event board.state h

-- time passes, and then there is an access: all that left did so before it
pub later_said : (ns : ℕ) (event : Event) (old passed_by new : AnyBoard) (passed answer : Answer) (result : CAnswer) → IsAccess event
    → (passed, passed_by) ≡ step_of (Wait ns) old → (answer, new) ≡ step_of event passed_by
    → result ≡ said answer.value answer.int passed.sent.items → (result, Some new) ≡ acts_after ns event old
later_said ns event old passed_by new passed answer result h e f r =
    let none : answer.sent.items ≡ [] = ap (λ (x : Answer × AnyBoard). x.0.sent.items) f ∙ silent event passed_by h in
    let bytes : passed.sent.items ++ answer.sent.items ≡ passed.sent.items = ap (λ (l : List ℕ). passed.sent.items ++ l) none ∙ append-nil passed.sent.items in
    rw (← e, ← f) (ap (λ (c : CAnswer). (c, Some new)) (r ∙ ap (said answer.value answer.int) (sym bytes)))

-- there is an access now: no byte left
pub now_said : (event : Event) (old new : AnyBoard) (answer : Answer) → IsAccess event
    → (answer, new) ≡ step_of event old → (said answer.value answer.int [], Some new) ≡ acts event old
now_said event old new answer h e =
    let none : answer.sent.items ≡ [] = ap (λ (x : Answer × AnyBoard). x.0.sent.items) e ∙ silent event old h in
    rw (← e) (ap (λ (l : List ℕ). (said answer.value answer.int l, Some new)) (sym none))

-- the board's own moment isn't past, and an access at it is one now
pub at_now : (moment : ℕ) (event : Event) (old new : AnyBoard) (answer : Answer) → IsAccess event → (moment == now_of old) ≡ true
    → (answer, new) ≡ step_of event old → (said answer.value answer.int [], Some new) ≡ event_at moment event (Some old)
at_now moment event old new answer h now e =
    let not-past : nat_lt moment (now_of old) ≡ false = grind (arith, nat_tests) in
    rw (not-past, now) (now_said event old new answer h e)

-- time passes and no byte leaves
pub passed_to : (moment : ℕ) (old new : AnyBoard) (int : Bool) → now_of old ≤ moment
    → (saying None int, new) ≡ step_of (Wait (moment - now_of old)) old → (said None int [], Some new) ≡ time_to moment (Some old)
passed_to moment old new int l e =
    let not-past : nat_lt moment (now_of old) ≡ false = grind (arith, nat_tests) in
    rw (not-past, ← e) refl

-- the same, and then there is an access
pub at_later : (moment : ℕ) (event : Event) (old passed_by new : AnyBoard) (int : Bool) (answer : Answer) → IsAccess event → now_of old ≤ moment
    → (moment == now_of old) ≡ false → (saying None int, passed_by) ≡ step_of (Wait (moment - now_of old)) old → (answer, new) ≡ step_of event passed_by
    → (said answer.value answer.int [], Some new) ≡ event_at moment event (Some old)
at_later moment event old passed_by new int answer h l later e f =
    let not-past : nat_lt moment (now_of old) ≡ false = grind (arith, nat_tests) in
    rw (not-past, later) (later_said (moment - now_of old) event old passed_by new (saying None int) answer (said answer.value answer.int []) h e f refl)

-- an access at a moment that was reached without a byte
pub at_reached : (moment : ℕ) (event : Event) (old reached new : AnyBoard) (answer : Answer) → IsAccess event → Reaches moment old reached
    → (answer, new) ≡ step_of event reached → (said answer.value answer.int [], Some new) ≡ event_at moment event (Some old)
at_reached moment event old reached new answer h (inl r) e = at_now moment event old new answer h r.0 (e ∙ ap (step_of event) r.1)
at_reached moment event old reached new answer h (inr r) e = at_later moment event old reached new r.2.0 answer h r.1 r.0 r.2.1 e

-- the result of a wait that may have passed
pub reached_by : (moment : ℕ) (old new : AnyBoard) (o : Option Bool) → (moment == now_of old) ≡ false
    → MatchOption o (new ≡ old) (λ int. (saying None int, new) ≡ step_of (Wait (moment - now_of old)) old) → IfSome o (λ int. now_of old ≤ moment)
    → is_some o ≡ true → Reaches moment old new
reached_by moment old new None other passed later e = cc
reached_by moment old new (Some int) other passed later e = inr (other, later, (int, passed))
