-- The bytes that leave, and their order.
use Rattle.dev_serial.proofs.Facade
use Facade.{◌≡◌, ℕ, ◌+◌, ◌<◌, ◌≤◌, Bool, true, false, cond, List, ◌∷◌, ◌++◌, length, Some, None, refl, sym, ap, ◌∙◌}
use Facade.{arith, [], append_assoc, append-nil, get_or, ◌-◌, Option, not, ◌&&◌, nat_tests, nat_le, remove, nat_lt, is_some, not-false, map-append}
use Facade.{length-map, ReceiverState, timetable, departures, gone, staying, holding, arrived, on_line, looped_in, bytes_of, run_until, gone_by, pending_of}
use Facade.{queued, loaded, Mode, Shift, is_empty, thr_written, advanced, character_time, Port, Event, Writes, Advances, after, after_all, left_in, left_in_all}
use Facade.{accepted_in, accepted_in_all, replaces, pending, SendsInOrder, ReplacesOne, LeavesForLine, le-leb, lt-leb}
use Rattle.dev_serial.specs.Transmit.{byte_of}

-- ---- one byte at a time

-- a timetable is of its bytes
pub bytes_of-timetable : (character due : ℕ) (bytes : List ℕ) → bytes_of (timetable character due bytes) ≡ bytes
unfolding timetable
bytes_of-timetable character due [] = refl
bytes_of-timetable character due (byte ∷ bytes) = rw (bytes_of-timetable character (due + character) bytes)

pub looped_none : (looped : Bool) (mode : Mode) (receiver : ReceiverState) → cond looped (arrived mode [] receiver) receiver ≡ receiver
unfolding arrived
looped_none looped mode receiver = grind (arith, nat_tests)

module _ (mode : Mode) (to : ℕ) (shift : Shift) where
  -- the byte in the shift register is not due
  module _ (h : to < shift.due) where
    pub none-gone : (waiting : List ℕ) → gone to (departures mode.character (Some shift) waiting) ≡ []
    unfolding departures timetable gone
    none-gone waiting = rw (lt-leb shift.due to h)

    pub stays-left : (whole : List Shift) (waiting : List ℕ) → whole ≡ staying to (departures mode.character (Some shift) waiting)
        → record { waiting = waiting; shift = Some shift } ≡ holding whole
    unfolding departures timetable staying holding
    stays-left whole waiting e = rw (e, lt-leb shift.due to h, bytes_of-timetable mode.character (shift.due + mode.character) waiting)

    pub stays-line : (whole line waiting : List ℕ) → whole ≡ line ++ on_line mode (gone to (departures mode.character (Some shift) waiting)) → line ≡ whole
    stays-line whole line waiting e = grind (arith, none-gone, nat_tests, append-nil)

    pub stays-looped : (whole receiver : ReceiverState) (waiting : List ℕ)
        → whole ≡ looped_in mode (gone to (departures mode.character (Some shift) waiting)) receiver → receiver ≡ whole
    stays-looped whole receiver waiting e = grind (arith, none-gone, looped_none)

  -- it is due
  module _ (h : shift.due ≤ to) where
    -- and no byte waits after it
    pub ends-left : (whole : List Shift) (waiting : List ℕ) → whole ≡ staying to (departures mode.character (Some shift) waiting) → length waiting ≡ 0
        → record { waiting = waiting; shift = None } ≡ holding whole
    unfolding departures timetable staying holding
    ends-left whole [] e z = rw (e, le-leb shift.due to h)
    ends-left whole (x ∷ xs) e z = absurd (omega arith)

    one-gone : (waiting : List ℕ) → length waiting ≡ 0 → gone to (departures mode.character (Some shift) waiting) ≡ shift ∷ []
    unfolding departures timetable gone
    one-gone [] z = rw (le-leb shift.due to h)
    one-gone (x ∷ xs) z = absurd (omega arith)

    pub ends-line : (whole line longer waiting : List ℕ) → longer ≡ line ++ on_line mode (shift ∷ [])
        → whole ≡ line ++ on_line mode (gone to (departures mode.character (Some shift) waiting)) → length waiting ≡ 0 → longer ≡ whole
    ends-line whole line longer waiting l e z = l ∙ sym (e ∙ rw (one-gone waiting z))

    pub ends-looped : (whole receiver after : ReceiverState) (waiting : List ℕ) → after ≡ looped_in mode (shift ∷ []) receiver
        → whole ≡ looped_in mode (gone to (departures mode.character (Some shift) waiting)) receiver → length waiting ≡ 0 → after ≡ whole
    ends-looped whole receiver after waiting l e z = l ∙ sym (e ∙ rw (one-gone waiting z))

    -- and a byte follows it
    gone-next : (waiting rest : List ℕ) (next : ℕ) → 0 < length waiting → next ≡ get_or waiting 0 next → rest ≡ remove waiting 0 → gone to (departures mode.character (Some shift) waiting) ≡ shift ∷ gone to (departures mode.character (Some (record { byte = next; due = shift.due + mode.character })) rest)
    unfolding departures timetable gone
    gone-next waiting rest next l n r = grind arith

    pub moves-left : (whole : List Shift) (waiting rest : List ℕ) (next : ℕ) → next ≡ get_or waiting 0 next → rest ≡ remove waiting 0 → whole ≡ staying to (departures mode.character (Some shift) waiting) → 0 < length waiting → whole ≡ staying to (departures mode.character (Some (record { byte = next; due = shift.due + mode.character })) rest)
    unfolding departures timetable staying
    moves-left whole waiting rest next n r e l = grind arith

    pub moves-line : (whole line longer waiting rest : List ℕ) (next : ℕ) → next ≡ get_or waiting 0 next → rest ≡ remove waiting 0 → longer ≡ line ++ on_line mode (shift ∷ []) → whole ≡ line ++ on_line mode (gone to (departures mode.character (Some shift) waiting)) → 0 < length waiting → whole ≡ longer ++ on_line mode (gone to (departures mode.character (Some (record { byte = next; due = shift.due + mode.character })) rest))
    moves-line whole line longer waiting rest next n r is e l = grind (arith, gone-next, nat_tests, append-nil, append_assoc)

    pub moves-looped : (whole receiver after : ReceiverState) (waiting rest : List ℕ) (next : ℕ) → next ≡ get_or waiting 0 next → rest ≡ remove waiting 0 → after ≡ looped_in mode (shift ∷ []) receiver → whole ≡ looped_in mode (gone to (departures mode.character (Some shift) waiting)) receiver → 0 < length waiting → whole ≡ looped_in mode (gone to (departures mode.character (Some (record { byte = next; due = shift.due + mode.character })) rest)) after
    unfolding arrived
    moves-looped whole receiver after waiting rest next n r is e l = grind (arith, gone-next, nat_tests)

-- ---- timetables, and what leaves by them

-- the bytes that leave and those that stay are the whole timetable
pub gone-staying : (to : ℕ) (shifts : List Shift) → gone to shifts ++ staying to shifts ≡ shifts
unfolding gone staying
gone-staying to [] = refl
gone-staying to (shift ∷ later) = grind (arith, nat_tests, gone-staying to later)

-- up to one moment and then up to a later one is up to the later one
pub staying-twice : (a b : ℕ) (shifts : List Shift) → a ≤ b → staying b (staying a shifts) ≡ staying b shifts
unfolding staying
staying-twice a b [] h = refl
staying-twice a b (shift ∷ later) h = grind (arith, nat_tests, staying-twice a b later h)

pub gone-twice : (a b : ℕ) (shifts : List Shift) → a ≤ b → gone a shifts ++ gone b (staying a shifts) ≡ gone b shifts
unfolding gone staying
gone-twice a b [] h = refl
gone-twice a b (shift ∷ later) h = grind (arith, nat_tests, gone-twice a b later h)

-- the rest of a timetable is one
record IsTable (character : ℕ) (shifts : List Shift) : Type 0 where
  due : ℕ
  bytes : List ℕ
  table : shifts ≡ timetable character due bytes

staying-table : (character to due : ℕ) (bytes : List ℕ) → IsTable character (staying to (timetable character due bytes))
unfolding staying timetable
staying-table character to due [] = record { due = due; bytes = []; table = refl }
staying-table character to due (byte ∷ bytes) = by_test (staying-table character to (due + character) bytes) (nat_le due to) where
  by_test : IsTable character (staying to (timetable character (due + character) bytes)) → (b : Bool) → IsTable character (cond b (staying to (timetable character (due + character) bytes)) (record { byte = byte; due = due } ∷ timetable character (due + character) bytes))
  by_test rest true = rest
  by_test rest false = record { due = due; bytes = byte ∷ bytes; table = refl }

departures-table : (character due : ℕ) (bytes : List ℕ)
    → departures character (holding (timetable character due bytes)).shift (holding (timetable character due bytes)).waiting ≡ timetable character due bytes
unfolding departures holding timetable
departures-table character due [] = refl
departures-table character due (byte ∷ bytes) = rw (bytes_of-timetable character (due + character) bytes)

departures-holding : (character : ℕ) (shifts : List Shift) → IsTable character shifts
    → departures character (holding shifts).shift (holding shifts).waiting ≡ shifts
departures-holding character shifts t = grind (arith, departures-table)

-- the bytes to send after a moment are the rest of the timetable
pub departures-later : (character to : ℕ) (shift : Option Shift) (waiting : List ℕ) → departures character (run_until character to shift waiting).shift (run_until character to shift waiting).waiting ≡ staying to (departures character shift waiting)
unfolding departures run_until staying
departures-later character to shift waiting = grind (arith, departures-holding, staying-table)

run-holding : (character to : ℕ) (shifts : List Shift) → IsTable character shifts
    → run_until character to (holding shifts).shift (holding shifts).waiting ≡ holding (staying to shifts)
unfolding run_until staying holding
run-holding character to shifts t = grind (arith, departures-holding)

-- the transmitter after two moments is that after the later one
pub run-twice : (character a b : ℕ) (shift : Option Shift) (waiting : List ℕ) → a ≤ b
    → run_until character b (run_until character a shift waiting).shift (run_until character a shift waiting).waiting ≡ run_until character b shift waiting
unfolding run_until departures
run-twice character a b shift waiting h = grind (arith, run-holding, staying-table, staying-twice)

pub gone_by-twice : (character a b : ℕ) (shift : Option Shift) (waiting : List ℕ) → a ≤ b → gone_by character a shift waiting ++ gone_by character b (run_until character a shift waiting).shift (run_until character a shift waiting).waiting ≡ gone_by character b shift waiting
gone_by-twice character a b shift waiting h = grind (arith, departures-later, gone-twice)

-- no more bytes wait than before
length-staying : (to : ℕ) (shifts : List Shift) → length (staying to shifts) ≤ length shifts
unfolding staying
length-staying to [] = omega arith
length-staying to (shift ∷ later) = grind (arith, nat_tests, length-staying to later)

length-holding : (shifts : List Shift) → length (holding shifts).waiting ≤ length shifts - 1
unfolding holding
length-holding [] = omega arith
length-holding (shift ∷ later) = simp length-map (omega arith)

length-timetable : (character due : ℕ) (bytes : List ℕ) → length (timetable character due bytes) ≡ length bytes
length-timetable character due bytes = sym (length-map (timetable character due bytes) byte_of) ∙ ap length (bytes_of-timetable character due bytes)

pub fewer : (character to : ℕ) (shift : Option Shift) (waiting : List ℕ) → length (run_until character to shift waiting).waiting ≤ length waiting
unfolding run_until departures
fewer character to None waiting = omega arith
fewer character to (Some shift) waiting =
    let table = timetable character shift.due (shift.byte ∷ waiting) in
    omega (arith, length-holding (staying to table), length-staying to table, length-timetable character shift.due (shift.byte ∷ waiting))

-- the bytes that a transmitter holds, first out first
pub pending-holding : (shifts : List Shift) → pending_of (holding shifts).shift (holding shifts).waiting ≡ bytes_of shifts
unfolding holding
pending-holding shifts = grind arith

pub in-order : (character to : ℕ) (shift : Option Shift) (waiting : List ℕ) → bytes_of (gone_by character to shift waiting) ++ pending_of (run_until character to shift waiting).shift (run_until character to shift waiting).waiting ≡ pending_of shift waiting
unfolding run_until departures gone
in-order character to None waiting = refl
in-order character to (Some shift) waiting =
    let table = timetable character shift.due (shift.byte ∷ waiting) in
    rw (pending-holding (staying to table), ← map-append byte_of (gone to table) (staying to table), gone-staying to table)
    (bytes_of-timetable character shift.due (shift.byte ∷ waiting))

-- ---- the port

-- the bytes to send after one is written
pending-loaded : (due : ℕ) (shift : Option Shift) (waiting : List ℕ)
    → pending_of (loaded due shift waiting).shift (loaded due shift waiting).waiting ≡ pending_of shift waiting
unfolding loaded
pending-loaded due shift waiting = grind arith

pub none_left : (bytes : List ℕ) → is_empty bytes ≡ true → bytes ≡ []
none_left [] e = refl
none_left (byte ∷ bytes) e = grind arith

queued-accepted : (has_fifos : Bool) (byte : ℕ) (waiting : List ℕ) → (not has_fifos && not (is_empty waiting)) ≡ false
    → queued has_fifos byte waiting ≡ waiting ++ cond (has_fifos && not (nat_lt (length waiting) 16)) [] (byte ∷ [])
unfolding queued
queued-accepted true byte waiting e = grind (arith, nat_tests, append-nil)
queued-accepted false byte waiting e = rw (none_left waiting (not-false (is_empty waiting) e))

one-event : (event : Event) (port : Port) → replaces event port ≡ false
    → left_in event port ++ pending (after event port) ≡ pending port ++ accepted_in event port
unfolding thr_written advanced
one-event (Writes byte now) port e = grind (arith, pending-loaded, is_some, queued-accepted)
one-event (Advances to) port e = cc (in-order (character_time port.divisor port.lcr) to port.transmitter.shift port.transmitter.waiting, append-nil _)

pub sends_in_order : SendsInOrder
unfolding after_all left_in_all accepted_in_all
sends_in_order [] port r = sym (append-nil (pending port))
sends_in_order (event ∷ events) port r = grind (arith, append_assoc, one-event event port, sends_in_order events (after event port))

pub replaces_one : ReplacesOne
unfolding thr_written queued
replaces_one byte now port e = rw e (pending-loaded (now + character_time port.divisor port.lcr) port.transmitter.shift (byte ∷ []))

pub leaves_for_line : LeavesForLine
unfolding advanced
leaves_for_line to port = refl
