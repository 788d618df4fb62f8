-- When a board is next due: at one wait at most, and at what was found.
use Rattle.dev_due.proofs.Facade
use Facade.{Answer, AreTurns, Board, Bool, Clock, ClockState, Event, Finds, Found, FoundAt, FoundSend, FoundSends, IfSome, IsBy, IsEnd, IsLoadedBy, IsSegment}
use Facade.{IsSentAfter, IsShift, IsSound, IsTurn, Isa, LAST_MOMENT, LoadedBy, None, OneIsDue, Option, Rtc, SameClock, SameLine, Shift, Shown, Some, State}
use Facade.{Tried, Turns, Wait, acted, advanced, after_act, ap, arith, board_int, cases_lt, character_of, clock_int, devices_of, edge_of, ends_within, false}
use Facade.{false_from_ne_true, follows_line, has_come, inl, inputs_of, inr, later_by, le-leb, length, line_of, loaded, lt-leb, not_from_false, or_right}
use Facade.{out_of, passed, period_in, pit-later, pit_edge, pit_out, refl, settled, shows, shows_at, shows_of, step, sym, timer_of, true, waited, wires_after}
use Facade.{wires_of, ℕ, ⊎_elim, ◌*◌, ◌+◌, ◌-◌, ◌<◌, ◌==◌, ◌∙◌, ◌≡◌, ◌≤◌, ◌⊎◌}
use Rattle.dev_due.proofs.PortLaws.{Covers, IsBase, LeavesBy, covers}
use Rattle.dev_clock.specs.Step.{acted as clock_acted, step as clock_step, waited as clock_waited}

-- ---- a board is next due at one wait at most

pub one_is_due : {S : Type 0} (step : Event → S → Answer × S) (int : S → Bool) → OneIsDue step int
one_is_due step int m first second h l = grind arith

-- ---- what was found is when the board is next due: bounds of a sound board

shift-soon : (now : ℕ) (shift : Option Shift) → now ≤ LAST_MOMENT → IsShift now shift → IfSome shift (λ s. s.due ≤ 4500000000000000000)
shift-soon now None l h = tt
shift-soon now (Some shift) l h = omega arith

module _ (m : State) (sound : IsSound m) where
  pub soon : IfSome m.serial.transmitter.shift (λ shift. shift.due ≤ 4500000000000000000)
  soon = shift-soon m.moment m.serial.transmitter.shift sound.devices.moment sound.devices.serial.transmitter.shift

  pub few : length m.serial.transmitter.waiting ≤ 16
  few = sound.devices.serial.transmitter.short.short

  pub loaded_later : (later : ℕ) → m.moment ≤ later → IsLoadedBy later m.pit
  loaded_later later l = pit-later m.moment later m.pit (loaded m sound.devices) l

-- ---- what was found is found still

pub by_later : (at to : ℕ) (found : Option ℕ) → at ≤ to → IsBy at found → IsBy to found
by_later at to None l h = absurd h
by_later at to (Some found) l h = omega arith

pub finds_same : (board : Board) (found : Option ℕ) → Finds board found found
finds_same board found = record { kept = λ at h. h; shown = λ h. h }

module _ {board : Board} {old new : Option ℕ} (f : Finds board old new) where
  pub finds_on : {newer : Option ℕ} → Finds board new newer → Finds board old newer
  finds_on g = record { kept = λ at h. g.kept at (f.kept at h); shown = λ h. g.shown (f.shown h) }

  pub keep_tried : {at : ℕ} → Tried board at old → Tried board at new
  keep_tried {at} t = record { by = λ s. f.kept at (t.by s) }

  pub keep_found : {base : ℕ} → Found board base old → Found board base new
  keep_found h = record { by = λ to segment e. f.kept to (h.by to segment e) }

  pub keep_at : (base : Option ℕ) → FoundAt board base old → FoundAt board base new
  keep_at None h = tt
  keep_at (Some base) h = keep_found h

  pub keep_send : {sent : ℕ} → FoundSend board sent old → FoundSend board sent new
  keep_send h = record { tried = keep_tried h.tried; leaves = keep_found h.leaves; ends = keep_found h.ends }

  pub keep_sends : (shift : Option Shift) → FoundSends board shift old → FoundSends board shift new
  keep_sends None h = tt
  keep_sends (Some shift) h = λ k few. keep_send (h k few)

-- one more byte's moments were tried
pub next_sends : (board : Board) (old new : Option ℕ) (due left sent : ℕ) → ((k : ℕ) → k < left → FoundSend board (due + k * character_of board) old)
    → Finds board old new
    → sent ≡ due + left * character_of board → FoundSend board sent new → (k : ℕ) → k < left + 1 → FoundSend board (due + k * character_of board) new
next_sends board old new due left sent all finds e here k h = grind (arith, keep_send)

-- ---- what a wait shows: OUT of counter 0 and its edge, the serial line, and the bytes that left

-- at both moments the devices of a board show the same
pub record SameShown (m : State) (c to : ℕ) : Type 0 where
  pub edge : pit_edge 0 m.moment c m.pit ≡ pit_edge 0 m.moment to m.pit
  pub out : pit_out 0 c m.pit ≡ pit_out 0 to m.pit
  pub line : line_of c (advanced c m.serial).1 ≡ line_of to (advanced to m.serial).1
  pub sent : (advanced c m.serial).0 ≡ (advanced to m.serial).0

-- the answer and the board at a moment
ended : ℕ → State → Answer × State
ended to m = after_act (wires_of m) (waited to m)

wait-at : (ns : ℕ) (m : State) → step (Wait ns) m ≡ ended (later_by ns m.moment) m
unfolding step acted wires_after ended
wait-at ns m = refl

same-at : (m : State) (c to : ℕ) → SameShown m c to → ((ended c m).0.int ≡ (ended to m).0.int) × ((ended c m).0.sent ≡ (ended to m).0.sent)
unfolding ended after_act waited settled inputs_of
same-at m c to s = (rw (s.edge, s.out, s.line) refl, rw s.sent refl)

board-sent : (to : ℕ) (m : State) → (ended to m).0.sent.items ≡ (advanced to m.serial).0
unfolding ended after_act waited
board-sent to m = refl

-- a board of a kind, whose wait ends as `by` says at the moment that it goes up to
module _ {S : Type 0} (step : Event → S → Answer × S) (int : S → Bool) (now : S → ℕ) (by : ℕ → S → Answer × S)
    (waits : (ns : ℕ) (m : S) → step (Wait ns) m ≡ by (later_by ns (now m)) m) (m : S) where
  wait-to : (to : ℕ) → now m ≤ to → to ≤ LAST_MOMENT → step (Wait (to - now m)) m ≡ by to m
  wait-to to h l = let last : later_by (to - now m) (now m) ≡ to = omega arith in waits (to - now m) m ∙ ap (λ t. by t m) last

  same-shows : (c to : ℕ) → now m ≤ c → c ≤ LAST_MOMENT → now m ≤ to → to ≤ LAST_MOMENT
      → ((by c m).0.int ≡ (by to m).0.int) × ((by c m).0.sent ≡ (by to m).0.sent) → shows step int m (c - now m) ≡ shows step int m (to - now m)
  same-shows c to hc lc ht lt same = rw (wait-to c hc lc, wait-to to ht lt, same.0, same.1) refl

  -- a wait beyond the last moment shows what one up to it shows
  shows-by : (ns : ℕ) → now m ≤ LAST_MOMENT → shows step int m ns ≡ shows step int m (later_by ns (now m) - now m)
  shows-by ns h = rw (waits ns m, wait-to (later_by ns (now m)) (omega arith) (omega arith)) refl

-- ---- a clock board

-- the answer and the devices at a moment
clock-at : ℕ → ClockState → Answer × ClockState
clock-at to m =
    let done = ended to m.board in
    follows_line (done.0, record { clock = passed m.board.moment done.1.moment m.clock; board = done.1 })

clock-wait-at : (ns : ℕ) (m : ClockState) → clock_step (Wait ns) m ≡ clock-at (later_by ns m.board.moment) m
unfolding clock_step clock_acted clock_waited clock-at
clock-wait-at ns m =
    ap (λ (done : Answer × State). follows_line (done.0, record { clock = passed m.board.moment done.1.moment m.clock; board = done.1 })) (wait-at ns m.board)

same-clock-at : (m : ClockState) (c to : ℕ) → SameShown m.board c to → passed m.board.moment c m.clock ≡ passed m.board.moment to m.clock
    → ((clock-at c m).0.int ≡ (clock-at to m).0.int) × ((clock-at c m).0.sent ≡ (clock-at to m).0.sent)
unfolding clock-at follows_line ended step acted wires_after after_act waited settled inputs_of wires_of
same-clock-at m c to s p = (rw (s.edge, s.out, s.line, p) refl, rw s.sent refl)

clock-sent : (to : ℕ) (m : ClockState) → (clock-at to m).0.sent.items ≡ (advanced to m.board.serial).0
unfolding clock-at follows_line ended after_act waited
clock-sent to m = refl

-- ---- if something shows, one of the tried moments shows something no later

abbrev pub now_of : Board → ℕ
now_of board = (devices_of board).moment

-- moments at which OUT, its edge, the line and the clock chip are the same show the same
same-any : (board : Board) (at to : ℕ) → now_of board ≤ at → at ≤ LAST_MOMENT → now_of board ≤ to → to ≤ LAST_MOMENT
    → edge_of (timer_of board) (now_of board) at ≡ edge_of (timer_of board) (now_of board) to → out_of (timer_of board) at ≡ out_of (timer_of board) to
    → SameLine (devices_of board).serial at to → SameClock board at to → shows_at board at ≡ shows_at board to
unfolding pit_edge pit_out
same-any board at to ha la ht lt edge out line clock = search (arith, same-shows, wait-at, same-at, clock-at, clock-wait-at, same-clock-at)

-- where the base and the moments at which OUT may turn after it were tried, all that shows in its segments was found
pub found_from : (board : Board) (base : ℕ) (turns : Turns) (found : Option ℕ) → LoadedBy (now_of board) (timer_of board).loaded_at
    → AreTurns turns (timer_of board) base
    → Tried board base found → Tried board turns.first found → Tried board turns.second found → Tried board turns.third found → Found board base found
found_from board base turns found loaded are here first second third = record { by = in-segment }
  where
    by-turn : (at : ℕ) → IsTurn turns base at → Tried board at found
    by-turn at (inl own) = rw own here
    by-turn at (inr (inl own)) = rw own first
    by-turn at (inr (inr (inl own))) = rw own second
    by-turn at (inr (inr (inr own))) = rw own third

    in-segment : (to : ℕ) → IsSegment board base to → shows_at board to ≡ true → IsBy to found
    in-segment to s e =
        let t = are (now_of board) to loaded s.from s.upto in
        let from : now_of board ≤ t.at = omega arith in
        let last : t.at ≤ LAST_MOMENT = omega arith in
        let same = same-any _ _ _ from last (omega arith) s.last t.edge t.out (s.line t.at t.from t.upto) (s.clock t.at t.from t.upto) in
        by_later _ _ _ t.upto ((by-turn t.at t.is).by (record { from = from; last = last; shows = cc }))

-- ---- the clock chip

same-chip : (chip : Rtc) (now at to : ℕ) → ends_within (period_in chip) now at ≡ ends_within (period_in chip) now to → passed now at chip ≡ passed now to chip
unfolding passed
same-chip chip now at to e = rw e

same-clock : (board : Board) (end : Option ℕ) (at to : ℕ) → IsEnd board end → now_of board ≤ at → now_of board ≤ to → has_come end at ≡ has_come end to
    → SameClock board at to
same-clock (Isa devices) end at to is ha ht e = tt
same-clock (Clock devices) end at to is ha ht e = same-chip _ _ _ _ (is.ends at ha ∙ e ∙ sym (is.ends to ht))

module _ (board : Board) (base to : ℕ) (found : Option ℕ) (from : now_of board ≤ base) (upto : base ≤ to) (last : to ≤ LAST_MOMENT)
    (line : (at : ℕ) → base ≤ at → at ≤ to → SameLine (devices_of board).serial at to) (e : shows_at board to ≡ true) (here : Found board base found) where
  -- the chip is the same from the base on
  in-one : ((at : ℕ) → base ≤ at → at ≤ to → SameClock board at to) → IsBy to found
  in-one clock = here.by to (record { from = from; upto = upto; last = last; line = line; clock = clock }) e

  -- a segment that the end of a period may cut
  by-clock : (end : Option ℕ) → IsEnd board end → FoundAt board end found → IsBy to found
  by-clock None is ends = in-one (λ at low high. same-clock _ None _ _ is (omega arith) (omega arith) refl)
  by-clock (Some end) is ends =
      let same : ((at : ℕ) → base ≤ at → at ≤ to → has_come (Some end) at ≡ has_come (Some end) to) → IsBy to found =
      λ h. in-one (λ at low high. same-clock _ _ _ _ is (omega arith) (omega arith) (h at low high)) in
      ⊎_elim (λ (f : to < end). same (λ at low high. lt-leb end at (omega arith) ∙ sym (lt-leb end to f)))
      (λ (f : end ≤ to). ⊎_elim (λ (g : base < end). ends.by to (record {
        from = omega arith;
        upto = f;
        last = last;
        line = λ at low high. line at (omega arith) high;
        clock = λ at low high. same-clock _ _ _ _ is (omega arith) (omega arith) (le-leb end at low ∙ sym (le-leb end to f));
      }) e)
      (λ (g : end ≤ base). same (λ at low high. le-leb end at (omega arith) ∙ sym (le-leb end to f))) (cases_lt base end)) (cases_lt to end)

-- ---- a byte that leaves shows

leaves-shows : (board : Board) (to : ℕ) → now_of board ≤ to → to ≤ LAST_MOMENT → (length (advanced to (devices_of board).serial).0 == 0) ≡ false
    → shows_at board to ≡ true
leaves-shows (Isa devices) to h l e = or_right _ _ (not_from_false _ (rw (wait-to step board_int (λ m. m.moment) ended wait-at devices.now to h l, board-sent to devices.now) e))
leaves-shows (Clock devices) to h l e =
    or_right _ _ (not_from_false _ (rw (wait-to clock_step clock_int (λ m. m.board.moment) clock-at clock-wait-at devices.now to h l, clock-sent to devices.now) e))

sent-later : (now : ℕ) (shift : Option Shift) → IsShift now shift → IsSentAfter now shift
sent-later now None h = tt
sent-later now (Some shift) h = h.later

-- ---- all that shows

module _ (board : Board) (found : Option ℕ) (sound : IsSound (devices_of board)) (now_found : Found board (now_of board) found)
    (timeout : FoundAt board (devices_of board).serial.receiver.timeout found)
    (sends : FoundSends board (devices_of board).serial.transmitter.shift found) where
  at-base : (base : ℕ) → IsBase (devices_of board).serial (now_of board) base → Found board base found
  at-base base held = grind arith

  at-first : (shift : Shift) → (devices_of board).serial.transmitter.shift ≡ Some shift → Tried board shift.due found
  at-first shift own = let now : shift.due + 0 * character_of board ≡ shift.due = omega arith in rw now at ((rw own at sends) 0 (omega arith)).tried

  is-sent : IsSentAfter (now_of board) (devices_of board).serial.transmitter.shift
  is-sent = sent-later (now_of board) (devices_of board).serial.transmitter.shift sound.devices.serial.transmitter.shift

  by-cover : (end : Option ℕ) → IsEnd board end → FoundAt board end found → (at : ℕ) → Shown board at
      → Covers (devices_of board).serial (now_of board) at ⊎ LeavesBy (devices_of board).serial at → IsBy at found
  by-cover end is ends at s (inl c) = by-clock board c.base at found c.from c.span.upto s.last c.span.same s.shows (at-base c.base c.is) end is ends
  by-cover end is ends at s (inr l) =
      let later : now_of board < l.shift.due = rw (l.sends) at is-sent in
      let from : now_of board ≤ l.shift.due = omega arith in
      let last : l.shift.due ≤ LAST_MOMENT = omega arith in
      by_later _ _ _ l.by ((at-first l.shift l.sends).by (record { from = from; last = last; shows = leaves-shows _ _ from last l.some }))

  pub all_found : (end : Option ℕ) → IsEnd board end → FoundAt board end found → (at : ℕ) → Shown board at → IsBy at found
  all_found end is ends at s = by-cover _ is ends _ s (covers _ _ _ s.from is-sent)

-- ---- the wait that was found

-- the moment that a wait goes up to
abbrev reached : Board → ℕ → ℕ
reached board ns = later_by ns (devices_of board).moment

shows-reached : (board : Board) (ns : ℕ) → (devices_of board).moment ≤ LAST_MOMENT → shows_of board ns ≡ shows_at board (reached board ns)
shows-reached (Isa devices) ns h = shows-by step board_int (λ m. m.moment) ended wait-at devices.now ns h
shows-reached (Clock devices) ns h = shows-by clock_step clock_int (λ m. m.board.moment) clock-at clock-wait-at devices.now ns h

shown-there : (board : Board) (ns : ℕ) → (devices_of board).moment ≤ LAST_MOMENT → shows_of board ns ≡ true → Shown board (reached board ns)
shown-there board ns h e = record { from = omega arith; last = omega arith; shows = cc (shows-reached board ns h) }

pub none_due : (board : Board) → (devices_of board).moment ≤ LAST_MOMENT → ((at : ℕ) → Shown board at → IsBy at None) → (ns : ℕ) → shows_of board ns ≡ false
none_due board h all ns = false_from_ne_true (shows_of board ns) (λ e. all (reached board ns) (shown-there _ _ h e))

pub some_due : (board : Board) (found : ℕ) → (devices_of board).moment ≤ LAST_MOMENT → Shown board found → ((at : ℕ) → Shown board at → IsBy at (Some found))
    → (shows_of board (found - (devices_of board).moment) ≡ true) × ((ns : ℕ) → ns < found - (devices_of board).moment → shows_of board ns ≡ false)
some_due board found h s all = (
  s.shows,
  λ ns l. false_from_ne_true (shows_of board ns) (λ e. absurd (omega (arith, all (reached board ns) (shown-there board ns h e)))),
)
