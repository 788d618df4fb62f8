-- A span in two parts, and a span in which no byte is due.
use Rattle.dev_serial.proofs.Facade.{◌≡◌, ℕ, ◌+◌, ◌<◌, ◌≤◌, Bool, true, cond, List, ◌∷◌, ◌++◌, length, Some, None, refl, sym}
use Rattle.dev_serial.proofs.Facade.{arith, [], not, ◌&&◌, lt-leb, map-append, le-max_right, le-div, ReceiverState, TransmitterState, timetable, departures}
use Rattle.dev_serial.proofs.Facade.{gone, staying, holding, arrived, bytes_of, run_until, gone_by, IsSentAfter, Mode, Shift, is_empty, advanced, leaving, has}
use Rattle.dev_serial.proofs.Facade.{character_time, Port, mode_of, received, AdvancesInParts, WaitsUntilDue, LoopsAtMoment}
use Rattle.dev_serial.proofs.SendingLaws.{bytes_of-timetable, looped_none, none-gone, run-twice, gone_by-twice, fewer}
use Rattle.dev_serial.specs.Transmit.{byte_of}

-- the bytes of two spans, one after the other
on_line-append : (mode : Mode) (looped : Bool) (xs ys : List Shift)
    → cond looped [] (bytes_of (xs ++ ys)) ≡ cond looped [] (bytes_of xs) ++ cond looped [] (bytes_of ys)
on_line-append mode looped xs ys = grind (arith, map-append, byte_of)

arrived-append : (mode : Mode) (xs ys : List Shift) (receiver : ReceiverState) → arrived mode (xs ++ ys) receiver ≡ arrived mode ys (arrived mode xs receiver)
unfolding arrived
arrived-append mode [] ys receiver = refl
arrived-append mode (shift ∷ xs) ys receiver = arrived-append mode xs ys (received mode shift.byte shift.due receiver)

looped-append : (mode : Mode) (looped : Bool) (xs ys : List Shift) (receiver : ReceiverState) → cond looped (arrived mode (xs ++ ys) receiver) receiver ≡ cond looped (arrived mode ys (cond looped (arrived mode xs receiver) receiver)) (cond looped (arrived mode xs receiver) receiver)
looped-append mode looped xs ys receiver = grind (arith, arrived-append)

pub stays_empty : (few many : List ℕ) → length few ≤ length many → is_empty many ≡ true → is_empty few ≡ true
stays_empty few many h e = grind arith

-- a port with what a span changes
outcome : Port → List ℕ → ReceiverState → TransmitterState → Bool → List ℕ × Port
outcome port line receiver transmitter latch = (line, record port { receiver = receiver; transmitter = transmitter; thr_empty = latch })

same_outcome : (port : Port) (line line' : List ℕ) (receiver receiver' : ReceiverState) (transmitter transmitter' : TransmitterState) (latch latch' : Bool) → line ≡ line' → receiver ≡ receiver' → transmitter ≡ transmitter' → latch ≡ latch' → outcome port line receiver transmitter latch ≡ outcome port line' receiver' transmitter' latch'
same_outcome port line line' receiver receiver' transmitter transmitter' latch latch' l r t h = rw (l, r, t, h)

module _ (first second : ℕ) (port : Port) (h : first ≤ second) where
  abbrev character : ℕ
  character = character_time port.divisor port.lcr

  between : TransmitterState
  between = run_until character first port.transmitter.shift port.transmitter.waiting

  end : TransmitterState
  end = run_until character second between.shift between.waiting

  end-same : end ≡ run_until character second port.transmitter.shift port.transmitter.waiting
  unfolding end between
  end-same = run-twice character first second port.transmitter.shift port.transmitter.waiting h

  gone-both : leaving first port ++ gone_by character second between.shift between.waiting ≡ leaving second port
  unfolding between
  gone-both = gone_by-twice character first second port.transmitter.shift port.transmitter.waiting h

  latch-same : cond (is_empty end.waiting && not (is_empty between.waiting)) true (cond (is_empty between.waiting && not (is_empty port.transmitter.waiting)) true port.thr_empty) ≡ cond (is_empty end.waiting && not (is_empty port.transmitter.waiting)) true port.thr_empty
  unfolding end between
  latch-same = grind (arith, is_empty, between, end, stays_empty, fewer)

  in-parts : advanced second port ≡ ((advanced first port).0 ++ (advanced second (advanced first port).1).0, (advanced second (advanced first port).1).1)
  unfolding advanced outcome end between
  in-parts = grind (arith, same_outcome, gone-both, on_line-append, has, looped-append, end-same, latch-same)

pub advances_in_parts : AdvancesInParts
advances_in_parts first second port h = in-parts first second port h

stays : (to : ℕ) (shift : Shift) (character : ℕ) (waiting : List ℕ) → to < shift.due
    → run_until character to (Some shift) waiting ≡ record { waiting = waiting; shift = Some shift }
unfolding run_until departures timetable staying holding
stays to shift character waiting h = rw (lt-leb shift.due to h, bytes_of-timetable character (shift.due + character) waiting)

no_change : (empty latch : Bool) → cond (empty && not empty) true latch ≡ latch
no_change empty latch = grind arith

nothing-leaves : (to : ℕ) (port : Port) → leaving to port ≡ []
    → run_until (character_time port.divisor port.lcr) to port.transmitter.shift port.transmitter.waiting ≡ port.transmitter
    → advanced to port ≡ ([], port)
unfolding advanced arrived outcome
nothing-leaves to port none still = grind (arith, same_outcome, has, looped_none, no_change, is_empty)

pub waits_until_due : WaitsUntilDue
waits_until_due to port shift e h =
    nothing-leaves to port (rw e (none-gone (mode_of port) to shift h port.transmitter.waiting)) (grind (arith, stays))

idle : (to : ℕ) (port : Port) → port.transmitter.shift ≡ None → advanced to port ≡ ([], port)
unfolding departures gone run_until
idle to port e = nothing-leaves to port (rw e) (rw (e, sym e))

-- nothing leaves before it is due
pub still : (to : ℕ) (port : Port) → IsSentAfter to port.transmitter.shift → advanced to port ≡ ([], port)
still to port h = grind (arith, idle, waits_until_due)

pub character-positive : (divisor lcr : ℕ) → 1 ≤ character_time divisor lcr
unfolding character_time
character-positive divisor lcr = le-div 1 _ 115200 (omega arith) (omega (arith, le-max_right divisor 1))

next-waits : (character due : ℕ) (bytes : List ℕ) → 1 ≤ character → gone due (timetable character (due + character) bytes) ≡ []
unfolding gone timetable
next-waits character due [] h = refl
next-waits character due (byte ∷ bytes) h = rw (lt-leb (due + character) due (omega arith))

pub loops_at_moment : LoopsAtMoment
unfolding advanced arrived departures timetable gone
loops_at_moment port shift l e = grind (arith, character-positive, next-waits)
