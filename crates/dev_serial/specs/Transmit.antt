-- The transmitter's steps, and the timetable of the bytes that are sent.
use Rattle.std.specs.Prelude.{◌≡◌, ℕ, ◌+◌, ◌<◌, ◌≤◌, Bool, nat_le, nat_lt, if◌then◌else◌, List, [], ◌∷◌, ◌++◌, length, map, Option, Some, None}
use Rattle.dev_serial.specs.declared.fifo.TheConstants.{FIFO_BYTES}
use Rattle.dev_serial.specs.declared.transmitter.TheConstants.{MOST_SENT}
use Rattle.dev_serial.specs.declared.mode.TheConstants.{LONGEST_CHARACTER}
use Rattle.dev_base.specs.declared.limits.TheConstants.{LAST_MOMENT}
use Rattle.dev_serial.specs.Parts.{ReceiverState, TransmitterState, IsShort}
use Rattle.dev_serial.specs.Receive.{received}
use Rattle.dev_serial.specs.declared.mode.Mode.{Mode}
use Rattle.dev_serial.specs.declared.shift.Shift.{Shift}

-- The bytes that wait after `byte` is written. Without FIFOs it replaces the one that waits; with
-- FIFOs it is lost if sixteen wait.
unfoldable pub queued : Bool → ℕ → List ℕ → List ℕ
queued has_fifos byte waiting =
    if has_fifos then (if nat_lt (length waiting) FIFO_BYTES then waiting ++ byte ∷ [] else waiting) else byte ∷ []

-- The transmitter after an idle shift register took the first byte that waits, to be sent at `due`.
unfoldable pub loaded : ℕ → Option Shift → List ℕ → TransmitterState
loaded due (Some shift) waiting = record { waiting = waiting; shift = Some shift }
loaded due None [] = record { waiting = []; shift = None }
loaded due None (byte ∷ rest) = record { waiting = rest; shift = Some (record { byte = byte; due = due }) }

-- The transmitter after `byte` is written. If the shift register is idle, `due` is when it is sent.
abbrev pub after_write : Bool → ℕ → ℕ → TransmitterState → TransmitterState
after_write has_fifos byte due transmitter = loaded due transmitter.shift (queued has_fifos byte transmitter.waiting)

-- The timetable of bytes: the first is sent at `due`, each later one a character after the one
-- before.
unfoldable pub timetable : ℕ → ℕ → List ℕ → List Shift
timetable character due [] = []
timetable character due (byte ∷ bytes) = record { byte = byte; due = due } ∷ timetable character (due + character) bytes

-- The timetable of the byte in a shift register and of those that wait.
unfoldable pub departures : ℕ → Option Shift → List ℕ → List Shift
departures character None waiting = []
departures character (Some shift) waiting = timetable character shift.due (shift.byte ∷ waiting)

-- The part of a timetable that is due by the moment `to`.
unfoldable pub gone : ℕ → List Shift → List Shift
gone to [] = []
gone to (shift ∷ later) = if nat_le shift.due to then shift ∷ gone to later else []

-- The rest of a timetable after the moment `to`.
unfoldable pub staying : ℕ → List Shift → List Shift
staying to [] = []
staying to (shift ∷ later) = if nat_le shift.due to then staying to later else shift ∷ later

-- The byte of an entry of a timetable.
abbrev pub byte_of : Shift → ℕ
byte_of shift = shift.byte

-- The bytes of a timetable.
abbrev pub bytes_of : List Shift → List ℕ
bytes_of shifts = map byte_of shifts

-- The transmitter with the rest of a timetable: the first byte in the shift register, the others
-- waiting.
unfoldable pub holding : List Shift → TransmitterState
holding [] = record { waiting = []; shift = None }
holding (shift ∷ later) = record { waiting = bytes_of later; shift = Some shift }

-- The receiver after the bytes of a timetable arrived, each at its moment.
unfoldable pub arrived : Mode → List Shift → ReceiverState → ReceiverState
arrived mode [] receiver = receiver
arrived mode (shift ∷ later) receiver = arrived mode later (received mode shift.byte shift.due receiver)

-- The bytes that leave on the line: none in loop mode.
abbrev pub on_line : Mode → List Shift → List ℕ
on_line mode shifts = if mode.is_looped then [] else bytes_of shifts

-- The receiver after the bytes that loop mode returns to it.
abbrev pub looped_in : Mode → List Shift → ReceiverState → ReceiverState
looped_in mode shifts receiver = if mode.is_looped then arrived mode shifts receiver else receiver

-- The transmitter after time has passed up to `to`.
unfoldable pub run_until : ℕ → ℕ → Option Shift → List ℕ → TransmitterState
run_until character to None waiting = record { waiting = waiting; shift = None }
run_until character to (Some shift) waiting = holding (staying to (departures character (Some shift) waiting))

-- The bytes that leave the shift register up to `to`, each with its moment.
abbrev pub gone_by : ℕ → ℕ → Option Shift → List ℕ → List Shift
gone_by character to shift waiting = gone to (departures character shift waiting)

-- The bytes that leave a transmitter up to `to`.
abbrev pub gone_from : Mode → ℕ → TransmitterState → List Shift
gone_from mode to transmitter = gone_by mode.character to transmitter.shift transmitter.waiting

-- The transmitter with these bytes waiting and this shift register.
abbrev pub transmitter_of : List ℕ → Option Shift → TransmitterState
transmitter_of waiting shift = record { waiting = waiting; shift = shift }

-- The shift register is idle, or its byte is sent after `to`.
abbrev pub IsSentAfter : ℕ → Option Shift → Type 0
IsSentAfter to None = Unit {0}
IsSentAfter to (Some shift) = to < shift.due

-- The bytes that a transmitter holds, the oldest first.
abbrev pub pending_of : Option Shift → List ℕ → List ℕ
pending_of None waiting = waiting
pending_of (Some shift) waiting = shift.byte ∷ waiting

-- What sending up to `to` requires of the bytes that wait and of the receiver.
pub record CanSend (mode : Mode) (to : ℕ) (waiting : List ℕ) (receiver : ReceiverState) : Type 0 where
  pub longest : mode.character ≤ LONGEST_CHARACTER
  pub moment : to ≤ LAST_MOMENT
  pub few : length waiting ≤ FIFO_BYTES
  pub few_held : IsShort mode.has_fifos receiver.held

-- Sending up to `to` puts the bytes `sent` on the line, and leaves the transmitter `after` and the
-- receiver `heard`.
pub record Sends (mode : Mode) (to : ℕ) (before after : TransmitterState) (receiver heard : ReceiverState) (sent : List ℕ) : Type 0 where
  pub left : after ≡ run_until mode.character to before.shift before.waiting
  pub line : sent ≡ on_line mode (gone_from mode to before)
  pub looped : heard ≡ looped_in mode (gone_from mode to before) receiver
  pub few_sent : length sent ≤ MOST_SENT
  pub none_due : IsSentAfter to after.shift
  pub fewer : length after.waiting ≤ length before.waiting
  pub still_few : IsShort mode.has_fifos heard.held
