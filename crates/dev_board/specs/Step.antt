-- What an event does to a board.
use Rattle.std.specs.Prelude.{ℕ, ◌+◌, ◌≤◌, MatchOption, Bool, true, false, List, [], ◌∷◌, Option, Some, None, bit_or, min}
use Rattle.dev_base.specs.declared.limits.TheConstants.{LAST_MOMENT}
use Rattle.dev_pic.specs.Pair.{acked, int_of, settled_pair}
use Rattle.dev_pit.specs.Pit.{pit_out, pit_edge}
use Rattle.dev_serial.specs.Access.{came_in, advanced}
use Rattle.dev_base.specs.Bits.{bits_where}
use Rattle.dev_serial.specs.Port.{line_of}
use Rattle.dev_board.specs.Ports.{read, write}
use Rattle.dev_board.specs.State.{State}
use Rattle.dev_board.specs.Wires.{is_wire, wires_of, with_wire}
use Rattle.dev_board.specs.declared.event.Answer.{Answer}
use Rattle.dev_board.specs.declared.event.Event.{Event}
use Rattle.dev_board.specs.declared.event.Event.TheVariants.{Read, Write, Byte, Wait, Wire, Ack}
use Rattle.dev_board.specs.declared.wires.TheConstants.{TIMER, SERIAL}

-- `Act` is what an event did before the lines are updated: the value it returns, whether counter 0
-- had a rising edge, and the bytes that left the serial port.
pub record Act : Type 0 where
  pub value : Option ℕ
  pub edge : Bool
  pub sent : List ℕ

-- `valued value` is an act that only returns a value.
abbrev pub valued : ℕ → Act
valued value = record { value = Some value; edge = false; sent = [] }

-- The act that returns nothing.
abbrev pub silent : Act
silent = record { value = None; edge = false; sent = [] }

-- `later_by ns moment` is the moment after `ns` nanoseconds, not beyond the last.
abbrev pub later_by : ℕ → ℕ → ℕ
later_by ns moment = min (moment + ns) LAST_MOMENT

-- `IsSentBy ns m`: the shift register's byte leaves it while `ns` nanoseconds pass.
abbrev pub IsSentBy : ℕ → State → Type 0
IsSentBy ns m = MatchOption m.serial.transmitter.shift ⊥ (λ shift. shift.due ≤ later_by ns m.moment)

-- `waited to m` lets time pass. Counter 0 may have a rising edge after the old moment and not after
-- the new one, and bytes may leave the serial port up to the new one.
unfoldable pub waited : ℕ → State → Act × State
waited to m =
    let sent = advanced to m.serial in (
      record { value = None; edge = pit_edge 0 m.moment to m.pit; sent = sent.0 },
      record m { moment = to; serial = sent.1 },
    )

-- `byte_came value m` is the board after a byte arrives on the serial line.
abbrev pub byte_came : ℕ → State → State
byte_came value m = record m { serial = came_in value m.moment m.serial }

-- `acted event m` is what the event does to the devices before the lines are updated.
unfoldable pub acted : Event → State → Act × State
acted (Read port) m = let answer = read port m in (valued answer.0, answer.1)
acted (Write port value) m = (silent, write port value m)
acted (Byte value) m = (silent, byte_came value m)
acted (Wait ns) m = waited (later_by ns m.moment) m
acted (Wire input up) m = (silent, m)
acted Ack m = let answer = acked m.pair in (valued answer.0, record m { pair = answer.1 })

-- `wires_after event wires` is the wires after the event.
unfoldable pub wires_after : Event → ℕ → ℕ
wires_after (Read port) wires = wires
wires_after (Write port value) wires = wires
wires_after (Byte value) wires = wires
wires_after (Wait ns) wires = wires
wires_after (Wire input up) wires = with_wire input up wires
wires_after Ack wires = wires

-- `inputs_of wires m` is the inputs of the pair: the wires, OUT of counter 0 at input 0, and the
-- serial port's line at input 4. Input 2 of the master is the slave's output, which the pair drives
-- itself.
unfoldable pub inputs_of : ℕ → State → ℕ
inputs_of wires m =
    bit_or (bit_or wires (bits_where (pit_out 0 m.moment m.pit) TIMER)) (bits_where (line_of m.moment m.serial) SERIAL)

-- `settled wires edge m` is the board after the lines are updated, with an edge at input 0 or none.
unfoldable pub settled : ℕ → Bool → State → State
settled wires edge m = record m { pair = settled_pair (inputs_of wires m) (bits_where edge TIMER) m.pair }

-- `after_act wires done` is the answer, and the board after the lines are updated, once, after the
-- event's act.
unfoldable pub after_act : ℕ → Act × State → Answer × State
after_act wires done =
    let after = settled wires done.0.edge done.1 in
    (record { value = done.0.value; int = int_of after.pair; sent = record { items = done.0.sent } }, after)

-- `step event m` is the answer to the event, and the board after it.
unfoldable pub step : Event → State → Answer × State
step event m = after_act (wires_after event (wires_of m)) (acted event m)

-- `names_wire event` tells whether the input of a wire's event is a wire.
unfoldable pub names_wire : Event → Bool
names_wire (Read port) = true
names_wire (Write port value) = true
names_wire (Byte value) = true
names_wire (Wait ns) = true
names_wire (Wire input up) = is_wire input
names_wire Ack = true

-- `answers_by go events m` is the list of the answers to a list of events, one after the other, by
-- the steps `go`.
unfoldable pub answers_by : {S : Type 0} → (Event → S → Answer × S) → List Event → S → List Answer
answers_by go [] m = []
answers_by go (event ∷ events) m = (go event m).0 ∷ answers_by go events (go event m).1

-- `after_by go events m` is the state after them.
unfoldable pub after_by : {S : Type 0} → (Event → S → Answer × S) → List Event → S → S
after_by go [] m = m
after_by go (event ∷ events) m = after_by go events (go event m).1

-- `observe events m` is the list of the board's answers to a list of events.
abbrev pub observe : List Event → State → List Answer
observe events m = answers_by step events m

-- `after_all events m` is the board after a list of events.
abbrev pub after_all : List Event → State → State
after_all events m = after_by step events m
