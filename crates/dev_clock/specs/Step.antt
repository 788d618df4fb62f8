-- What an event does to a clock board.
use Rattle.std.specs.Prelude.{ℕ, ◌==◌, Bool, false, ◌||◌, if◌then◌else◌, Option, Some, None, List, []}
use Rattle.dev_board.specs.Ports.{has_port as board_has_port}
use Rattle.dev_board.specs.Step.{step as board_step, answers_by, after_by}
use Rattle.dev_board.specs.declared.event.Answer.{Answer}
use Rattle.dev_board.specs.declared.event.Event.{Event}
use Rattle.dev_board.specs.declared.event.Event.TheVariants.{Read, Write, Byte, Wait, Wire, Ack}
use Rattle.vms_rtc.specs.Chip.{is_port, read_of, written, passed, line_of}
use Rattle.dev_clock.specs.State.{ClockState}
use Rattle.dev_clock.specs.declared.devices.TheConstants.{CLOCK_INPUT}

-- `saying value` is an answer of the chip, which sends no byte. The interrupt output is filled in
-- afterwards.
unfoldable pub saying : Option ℕ → Answer
saying value = record { value = value; int = false; sent = record { items = [] } }

-- `has_port port m` tells whether the chip or a device of the board has the port.
abbrev pub has_port : ℕ → ClockState → Bool
has_port port m = is_port port || board_has_port m.board.level port

-- `on_board event m` is a step of the board's devices.
abbrev pub on_board : Event → ClockState → Answer × ClockState
on_board event m = let done = board_step event m.board in (done.0, record m { board = done.1 })

-- `clock_read port m` is the answer to a read of a port of the chip, and the devices after it.
abbrev pub clock_read : ℕ → ClockState → Answer × ClockState
clock_read port m = let done = read_of port m.clock in (saying (Some done.0), record m { clock = done.1 })

-- `clock_written port value m` is the answer to a write to a port of the chip, and the devices
-- after it.
abbrev pub clock_written : ℕ → ℕ → ClockState → Answer × ClockState
clock_written port value m = (saying None, record m { clock = written port value m.clock })

-- `waited ns m` lets time pass on the board, and for the chip from the board's old moment to its
-- new one.
unfoldable pub waited : ℕ → ClockState → Answer × ClockState
waited ns m =
    let done = board_step (Wait ns) m.board in
    (done.0, record { clock = passed m.board.moment done.1.moment m.clock; board = done.1 })

-- `acted event m` is what the event itself does. The chip's ports are the chip's, and its input is
-- no wire.
unfoldable pub acted : Event → ClockState → Answer × ClockState
acted (Read port) m = if is_port port then clock_read port m else on_board (Read port) m
acted (Write port value) m =
    if is_port port then clock_written port value m else on_board (Write port value) m
acted (Byte value) m = on_board (Byte value) m
acted (Wait ns) m = waited ns m
acted (Wire input up) m = if input == CLOCK_INPUT then (saying None, m) else on_board (Wire input up) m
acted Ack m = on_board Ack m

-- `follows_line done` updates the board's input from the chip's line. The answer's value and bytes
-- are those of the event, its output is that after the update.
unfoldable pub follows_line : Answer × ClockState → Answer × ClockState
follows_line done =
    let taken = board_step (Wire CLOCK_INPUT (line_of done.1.clock)) done.1.board in
    (record { value = done.0.value; int = taken.0.int; sent = done.0.sent }, record done.1 { board = taken.1 })

-- `step event m` is the answer to the event, and the devices after it.
unfoldable pub step : Event → ClockState → Answer × ClockState
step event m = follows_line (acted event m)

-- `observe events m` is the list of the answers to a list of events.
abbrev pub observe : List Event → ClockState → List Answer
observe events m = answers_by step events m

-- `after_all events m` is the devices after a list of events.
abbrev pub after_all : List Event → ClockState → ClockState
after_all events m = after_by step events m
