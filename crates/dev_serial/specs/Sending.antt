-- Sequences of writes and of time that passes, and the laws of what is sent.
use Rattle.std.specs.Prelude.{◌≡◌, ℕ, ◌≤◌, ◌<◌, ◌&&◌, Bool, true, false, not, nat_lt, if◌then◌else◌, List, [], ◌∷◌, ◌++◌, length, Some, is_some}
use Rattle.dev_serial.specs.declared.fifo.TheConstants.{FIFO_BYTES}
use Rattle.dev_serial.specs.Access.{is_empty, thr_written, advanced, leaving}
use Rattle.dev_base.specs.Bits.{has}
use Rattle.dev_serial.specs.Line.{character_time}
use Rattle.dev_serial.specs.Port.{Port, mode_of}
use Rattle.dev_serial.specs.Receive.{received}
use Rattle.dev_serial.specs.Transmit.{bytes_of, pending_of}
use Rattle.dev_serial.specs.declared.mode.TheConstants.{LONGEST_CHARACTER}
use Rattle.dev_serial.specs.declared.shift.Shift.{Shift}

-- An event: a byte is written at a moment, or time passes up to one.
pub data Event : Type 0 where
  Writes : ℕ → ℕ → Event
  Advances : ℕ → Event

-- The port after an event.
abbrev pub after : Event → Port → Port
after (Writes byte now) port = thr_written byte now port
after (Advances to) port = (advanced to port).1

-- The port after each event of a list.
unfoldable pub after_all : List Event → Port → Port
after_all [] port = port
after_all (event ∷ events) port = after_all events (after event port)

-- The bytes that leave the shift register in an event.
abbrev pub left_in : Event → Port → List ℕ
left_in (Writes byte now) port = []
left_in (Advances to) port = bytes_of (leaving to port)

-- The bytes that leave the shift register over a list of events.
unfoldable pub left_in_all : List Event → Port → List ℕ
left_in_all [] port = []
left_in_all (event ∷ events) port = left_in event port ++ left_in_all events (after event port)

-- The byte that an event writes, unless FIFOs are on and sixteen bytes wait.
abbrev pub accepted_in : Event → Port → List ℕ
accepted_in (Writes byte now) port =
    if is_some port.fifos && not (nat_lt (length port.transmitter.waiting) FIFO_BYTES) then [] else byte ∷ []
accepted_in (Advances to) port = []

-- The bytes that are accepted over a list of events.
unfoldable pub accepted_in_all : List Event → Port → List ℕ
accepted_in_all [] port = []
accepted_in_all (event ∷ events) port =
    accepted_in event port ++ accepted_in_all events (after event port)

-- Whether the event writes a byte that replaces one that waits.
abbrev pub replaces : Event → Port → Bool
replaces (Writes byte now) port =
    not (is_some port.fifos) && not (is_empty port.transmitter.waiting)
replaces (Advances to) port = false

-- No event of the list replaces a byte.
abbrev pub ReplacesNone : List Event → Port → Type 0
ReplacesNone [] port = Unit {0}
ReplacesNone (event ∷ events) port = (replaces event port ≡ false)
    × ReplacesNone events (after event port)

-- The bytes that a port has yet to send, the oldest first.
abbrev pub pending : Port → List ℕ
pending port = pending_of port.transmitter.shift port.transmitter.waiting

-- If no byte is replaced over a list of events, two lists are equal: the bytes sent, followed by
-- those yet to send; and those yet to send before, followed by the accepted ones.
abbrev pub SendsInOrder : Type 0
SendsInOrder =
    (events : List Event) (port : Port) → ReplacesNone events port
    → left_in_all events port ++ pending (after_all events port)
    ≡ pending port ++ accepted_in_all events port

-- Without FIFOs a byte that is written replaces the one that waited, after the byte in the shift
-- register.
abbrev pub ReplacesOne : Type 0
ReplacesOne =
    (byte now : ℕ) (port : Port) → is_some port.fifos ≡ false
    → pending (thr_written byte now port) ≡ pending_of port.transmitter.shift (byte ∷ [])

-- The bytes that are sent leave on the line, or none does in loop mode.
abbrev pub LeavesForLine : Type 0
LeavesForLine =
    (to : ℕ) (port : Port)
    → (advanced to port).0 ≡ (if has port.mcr 4 then [] else bytes_of (leaving to port))

-- Time that passes in two parts has the same effect as time that passes at once.
abbrev pub AdvancesInParts : Type 0
AdvancesInParts =
    (first second : ℕ) (port : Port) → first ≤ second
    → advanced second port
    ≡ (
      (advanced first port).0 ++ (advanced second (advanced first port).1).0,
      (advanced second (advanced first port).1).1,
    )

-- The longest character has eight data bits, parity, two stop bits and the greatest divisor.
pub record LongestCharacter : Type 0 where
  pub reached : character_time 65535 0x0f ≡ LONGEST_CHARACTER
  pub most : (divisor lcr : ℕ) → divisor < 65536 → character_time divisor lcr ≤ LONGEST_CHARACTER

-- Before the byte in the shift register is due, time changes nothing.
abbrev pub WaitsUntilDue : Type 0
WaitsUntilDue =
    (to : ℕ) (port : Port) (shift : Shift) → port.transmitter.shift ≡ Some shift → to < shift.due
    → advanced to port ≡ ([], port)

-- In loop mode a byte is received at the moment at which it is sent, and none leaves on the line.
abbrev pub LoopsAtMoment : Type 0
LoopsAtMoment =
    (port : Port) (shift : Shift) → has port.mcr 4 ≡ true → port.transmitter.shift ≡ Some shift
    → ((advanced shift.due port).0 ≡ [])
    × ((advanced shift.due port).1.receiver
    ≡ received (mode_of port) shift.byte shift.due port.receiver)
