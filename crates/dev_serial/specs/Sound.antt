-- The states that a port may have at a moment.
use Rattle.std.specs.Prelude.{◌≡◌, ℕ, ◌+◌, ◌<◌, ◌≤◌, Bool, true, false, nat_le, ◌&&◌, not, List, [], ◌∷◌, Option, Some, None, is_some}
use Rattle.dev_serial.specs.Access.{is_empty}
use Rattle.dev_base.specs.Bits.{has}
use Rattle.dev_serial.specs.Parts.{ReceiverState, TransmitterState, IsShort}
use Rattle.dev_serial.specs.Port.{Port}
use Rattle.dev_serial.specs.Rules.{longest_timeout}
use Rattle.dev_base.specs.Levels.{IsLevel}
use Rattle.dev_serial.specs.declared.levels.TheConstants.{FIFOS_SINCE, TIMEOUT_SINCE}
use Rattle.dev_serial.specs.declared.shift.Shift.{Shift}
use Rattle.dev_serial.specs.declared.mode.TheConstants.{LONGEST_CHARACTER}
use Rattle.dev_serial.specs.declared.numbers.TheConstants.{NEVER}

-- Each number of the list is a byte.
abbrev pub AreBytes : List ℕ → Type 0
AreBytes [] = Unit {0}
AreBytes (byte ∷ bytes) = (byte < 256) × AreBytes bytes

-- Registers have only bits that exist, and FIFOs are on only at a level that has them.
pub record HasRegisters (level divisor ier lcr mcr scr : ℕ) (has_fifos : Bool) : Type 0 where
  pub is_level : IsLevel level
  pub divisor_range : divisor < 65536
  pub ier_range : ier ≤ 15
  pub lcr_range : lcr < 256
  pub mcr_range : mcr ≤ 31
  pub scr_range : scr < 256
  pub fifos : has_fifos ≡ true → FIFOS_SINCE ≤ level

-- A timeout has to run, and ends at most four of the longest characters later.
pub record EndsInTime (now : ℕ) (runs : Bool) (timeout : ℕ) : Type 0 where
  pub runs_now : runs ≡ true
  pub in_time : timeout ≤ now + longest_timeout

-- The timeout runs exactly if `runs` is true, and then ends in time.
abbrev pub IsTimeout : ℕ → Bool → Option ℕ → Type 0
IsTimeout now runs None = runs ≡ false
IsTimeout now runs (Some timeout) = EndsInTime now runs timeout

-- A receiver at a level, with or without FIFOs. The timeout runs while a byte is held, with FIFOs,
-- at a level that has it.
pub record IsReceiver (now level : ℕ) (has_fifos : Bool) (receiver : ReceiverState) : Type 0 where
  pub short : IsShort has_fifos receiver.held
  pub bytes : AreBytes receiver.held
  pub timeout : IsTimeout now (nat_le TIMEOUT_SINCE level && (has_fifos && not (is_empty receiver.held))) receiver.timeout

-- The byte in the shift register is sent after now, by at most the longest character.
pub record IsSentInTime (now : ℕ) (shift : Shift) : Type 0 where
  pub byte : shift.byte < 256
  pub later : now < shift.due
  pub in_time : shift.due ≤ now + LONGEST_CHARACTER

-- The shift register is idle, or its byte is sent in time.
abbrev pub IsShift : ℕ → Option Shift → Type 0
IsShift now None = Unit {0}
IsShift now (Some shift) = IsSentInTime now shift

-- A transmitter and the latch. If the shift register is idle or the latch is set, no byte waits.
pub record IsTransmitter (now : ℕ) (has_fifos : Bool) (transmitter : TransmitterState) (latch : Bool) : Type 0 where
  pub short : IsShort has_fifos transmitter.waiting
  pub bytes : AreBytes transmitter.waiting
  pub shift : IsShift now transmitter.shift
  pub idle : is_some transmitter.shift ≡ false → is_empty transmitter.waiting ≡ true
  pub latched : latch ≡ true → is_empty transmitter.waiting ≡ true

-- The port is sound at the moment `now`.
pub record IsSound (now : ℕ) (port : Port) : Type 0 where
  pub registers : HasRegisters port.level port.divisor port.ier port.lcr port.mcr port.scr (is_some port.fifos)
  pub receiver : IsReceiver now port.level (is_some port.fifos) port.receiver
  pub transmitter : IsTransmitter now (is_some port.fifos) port.transmitter port.thr_empty

-- The moment, if there is one, is less than NEVER.
abbrev pub IsTold : Option ℕ → Type 0
IsTold None = Unit {0}
IsTold (Some moment) = moment < NEVER

-- The shift register is idle or holds a byte.
abbrev pub IsByte : Option Shift → Type 0
IsByte None = Unit {0}
IsByte (Some shift) = shift.byte < 256

-- A port that a stream can describe: registers and bytes are in range, lists are short enough, no
-- timeout is NEVER, and the latch is set only while no byte waits.
pub record IsHeld (port : Port) : Type 0 where
  pub is_level : IsLevel port.level
  pub divisor_range : port.divisor < 65536
  pub lcr_range : port.lcr < 256
  pub scr_range : port.scr < 256
  pub held_short : IsShort (is_some port.fifos) port.receiver.held
  pub held_bytes : AreBytes port.receiver.held
  pub waiting_short : IsShort (is_some port.fifos) port.transmitter.waiting
  pub waiting_bytes : AreBytes port.transmitter.waiting
  pub timeout : IsTold port.receiver.timeout
  pub shift : IsByte port.transmitter.shift
  pub latched : port.thr_empty ≡ true → is_empty port.transmitter.waiting ≡ true

-- Two ports are alike: they differ at most in the latch, and not even there while its interrupt is
-- enabled.
pub record Alike (port other : Port) : Type 0 where
  pub same : other ≡ record port { thr_empty = other.thr_empty }
  pub enabled : has port.ier 1 ≡ true → other.thr_empty ≡ port.thr_empty
