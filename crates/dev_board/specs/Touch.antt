-- What an event touches of what drives the lines, and what the earlier lines still say.
use Rattle.std.specs.Prelude.{◌≡◌, ℕ, ◌<◌, ◌==◌, Bool, true, false, Option, [], not, ◌&&◌, ◌||◌, if◌then◌else◌, bit_and}
use Rattle.dev_base.specs.Bits.{has}
use Rattle.dev_pic.specs.Cells.{requests_hold}
use Rattle.dev_pic.specs.Chip.{level_inputs_of}
use Rattle.dev_pic.specs.Pair.{int_of, lines_of, slave_int_of}
use Rattle.dev_pic.specs.declared.chip.Chip.{Chip}
use Rattle.dev_pic.specs.declared.pair.PicPair.{PicPair}
use Rattle.dev_pit.specs.Pit.{pit_out}
use Rattle.dev_serial.specs.Port.{line_of}
use Rattle.dev_board.specs.State.{State}
use Rattle.dev_board.specs.declared.event.Answer.{Answer}
use Rattle.dev_board.specs.declared.ports.Target.{Target}
use Rattle.dev_board.specs.declared.ports.Target.TheVariants.{Pair, Counter, Control, Register, Nothing}
use Rattle.dev_board.specs.declared.touch.Before.{Before}
use Rattle.dev_board.specs.declared.touch.Touch.{Touch}
use Rattle.dev_board.specs.declared.wires.TheConstants.{DRIVEN, WIRES}
use Rattle.dev_board.specs.declared.touch.Touch.TheVariants.{Untouched, Timer, Port, Command, Access, Time}

-- `is_nothing touch` tells whether nothing that drives a line was touched.
abbrev pub is_nothing : Touch → Bool
is_nothing Untouched = true
is_nothing Command = true
is_nothing _ = false

-- `asks_timer touch` tells whether OUT of counter 0 must be computed again.
abbrev pub asks_timer : Touch → Bool
asks_timer Timer = true
asks_timer Time = true
asks_timer _ = false

-- `calm_after touch calm` is the moment before which OUT of counter 0 stays as it is, 0 if that isn't
-- known.
abbrev pub calm_after : Touch → ℕ → ℕ
calm_after touch calm = if asks_timer touch then 0 else calm

-- `asks_port touch` tells whether the serial port's line must be computed again.
abbrev pub asks_port : Touch → Bool
asks_port Port = true
asks_port Time = true
asks_port _ = false

-- `asks_int touch` tells whether INT must be computed again.
abbrev pub asks_int : Touch → Bool
asks_int Command = true
asks_int Access = true
asks_int _ = false

-- `is_access touch` tells whether the pair was accessed, so that the lines must be taken again.
abbrev pub is_access : Touch → Bool
is_access Access = true
is_access _ = false

-- `leaves_port offset value` tells whether a read of this register that returns this value leaves
-- the serial port unchanged. The line status does if it reports no overrun, and so does every other
-- register except the received byte and the identification (16550 data sheet, LSR, RBR and IIR).
unfoldable pub leaves_port : (offset value : ℕ) → Bool
leaves_port offset value = if offset == 5 then not (has value 1) else not (offset == 0) && not (offset == 2)

-- `read_touches target value` is what a read that returns this value touches. A read of the timer
-- chip leaves OUT unchanged.
abbrev pub read_touches : Target → ℕ → Touch
read_touches Pair value = Access
read_touches (Counter counter) value = Untouched
read_touches Control value = Untouched
read_touches (Register offset) value = if leaves_port offset value then Untouched else Port
read_touches Nothing value = Untouched

-- `is_command port value` tells whether a write is a command to the master that leaves its requests
-- and its lines: a word to its odd port, or OCW2 or OCW3, which have bit 4 clear (8259A data sheet,
-- "Operation Command Words").
unfoldable pub is_command : (port value : ℕ) → Bool
is_command port value = (port == 0x21) || (port == 0x20 && not (has value 4))

-- `write_touches target port value` is what a write touches.
abbrev pub write_touches : Target → (port value : ℕ) → Touch
write_touches Pair port value = if is_command port value then Command else Access
write_touches (Counter counter) port value = Timer
write_touches Control port value = Timer
write_touches (Register offset) port value = Port
write_touches Nothing port value = Untouched

-- `ack_touches lines` is what an acknowledge touches. While the slave's output is low it takes
-- nothing but a request.
unfoldable pub ack_touches : ℕ → Touch
ack_touches lines = if has lines 2 then Access else Command

-- `IsSettled chip`: in registers of eight bits, the requests of level inputs are their lines.
pub record IsSettled (chip : Chip) : Type 0 where
  pub irr : chip.irr < 256
  pub lines : chip.lines < 256
  pub elcr : chip.elcr < 256
  pub requests : requests_hold chip.irr chip.lines (level_inputs_of chip) ≡ true

-- `HasTaken lines pair`: the pair has taken these lines, and nothing that they depend on has changed
-- since.
pub record HasTaken (lines : ℕ) (pair : PicPair) : Type 0 where
  pub master : IsSettled pair.master
  pub slave : IsSettled pair.slave
  pub cascade : has (lines_of pair) 2 ≡ slave_int_of pair
  pub same : lines ≡ lines_of pair

-- `IsBefore before m`: the lines and the output are the master's, on this board.
pub record IsBefore (before : Before) (m : State) : Type 0 where
  pub lines : before.lines ≡ lines_of m.pair
  pub int : before.int ≡ int_of m.pair

-- `Stays touch before m`: what the master said before is still so of what wasn't touched.
pub record Stays (touch : Touch) (before : Before) (m : State) : Type 0 where
  pub out : asks_timer touch ≡ false → has before.lines 0 ≡ pit_out 0 m.moment m.pit
  pub serial : asks_port touch ≡ false → has before.lines 4 ≡ line_of m.moment m.serial
  pub int : asks_int touch ≡ false → before.int ≡ int_of m.pair
  pub pair : is_access touch ≡ false → HasTaken before.lines m.pair

-- `is_quiet touch edge inputs lines` tells whether the inputs leave the pair unchanged: they are
-- the lines, there is no edge, and the pair wasn't accessed.
unfoldable pub is_quiet : Touch → Bool → (inputs lines : ℕ) → Bool
is_quiet touch edge inputs lines = not (is_access touch) && (not edge && inputs == bit_and lines DRIVEN)

-- `is_untouched touch edge wires lines` tells whether nothing was touched and the wires are as
-- before.
unfoldable pub is_untouched : Touch → Bool → (wires lines : ℕ) → Bool
is_untouched touch edge wires lines = is_nothing touch && (not edge && wires == bit_and lines WIRES)

-- `saying value int` is an answer without bytes.
abbrev pub saying : Option ℕ → Bool → Answer
saying value int = record { value = value; int = int; sent = record { items = [] } }

-- `time_touches is_calm` is what the passing of time touches, if OUT of counter 0 stays or not.
abbrev pub time_touches : Bool → Touch
time_touches is_calm = if is_calm then Port else Time
