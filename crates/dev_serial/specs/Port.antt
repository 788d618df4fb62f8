-- A serial port, as contracts see it.
use Rattle.std.specs.Prelude.{ℕ, ◌==◌, Bool, true, false, nat_le, ◌&&◌, not, if◌then◌else◌, List, [], ◌∷◌, length, Option, Some, None, is_some}
use Rattle.dev_base.specs.Bits.{has}
use Rattle.dev_serial.specs.Fifo.{trigger_bytes}
use Rattle.dev_serial.specs.Line.{character_time}
use Rattle.dev_serial.specs.Parts.{ReceiverState, TransmitterState, IsShort}
use Rattle.dev_serial.specs.declared.interrupt.Interrupt.{Interrupt}
use Rattle.dev_serial.specs.declared.interrupt.Interrupt.TheVariants.{LineStatus, ReceivedData, CharacterTimeout, ThrEmpty, NonePending}
use Rattle.dev_serial.specs.declared.levels.TheConstants.{TIMEOUT_SINCE}
use Rattle.dev_serial.specs.declared.mode.Mode.{Mode}
use Rattle.dev_serial.specs.declared.trigger.Trigger.{Trigger}

-- The state of a port: its level, its registers, the FIFO switch with its trigger, its two halves,
-- and the latch, which records that the transmit list became empty.
pub record Port : Type 0 where
  pub level : ℕ
  pub divisor : ℕ
  pub ier : ℕ
  pub lcr : ℕ
  pub mcr : ℕ
  pub scr : ℕ
  pub fifos : Option Trigger
  pub receiver : ReceiverState
  pub transmitter : TransmitterState
  pub thr_empty : Bool

-- The port of level `level` at power on.
unfoldable pub power_on : ℕ → Port
power_on level = record {
  level = level;
  divisor = 12;
  ier = 0;
  lcr = 0;
  mcr = 0;
  scr = 0;
  fifos = None;
  receiver = record { held = []; overrun = false; timeout = None };
  transmitter = record { waiting = []; shift = None };
  thr_empty = false;
}

-- How characters are sent and received.
abbrev pub mode_of : Port → Mode
mode_of port = record {
  character = character_time port.divisor port.lcr;
  has_fifos = is_some port.fifos;
  times_out = nat_le TIMEOUT_SINCE port.level && is_some port.fifos;
  is_looped = has port.mcr 4;
}

-- Whether received bytes request an interrupt: one byte while FIFOs are off, else as many as the
-- trigger says ("FIFO Control Register", bits 6 and 7).
abbrev pub is_data_ready : Option Trigger → List ℕ → Bool
is_data_ready None held = not (length held == 0)
is_data_ready (Some trigger) held = nat_le (trigger_bytes trigger) (length held)

-- Whether the moment has come, if there is one.
abbrev pub has_come : ℕ → Option ℕ → Bool
has_come now None = false
has_come now (Some moment) = nat_le moment now

-- Whether the character timeout has passed, at a level that has it.
abbrev pub has_timed_out : ℕ → Port → Bool
has_timed_out now port = nat_le TIMEOUT_SINCE port.level && has_come now port.receiver.timeout

-- Whether an interrupt is requested: its bit of the "Interrupt Enable Register" is set and its
-- cause is present. NonePending is always so.
abbrev pub asks : ℕ → Port → Interrupt → Bool
asks now port LineStatus = has port.ier 2 && port.receiver.overrun
asks now port ReceivedData = has port.ier 0 && is_data_ready port.fifos port.receiver.held
asks now port CharacterTimeout = has port.ier 0 && has_timed_out now port
asks now port ThrEmpty = has port.ier 1 && port.thr_empty
asks now port NonePending = true

-- The interrupts by falling priority ("Interrupt Control Functions").
abbrev pub priorities : List Interrupt
priorities = LineStatus ∷ ReceivedData ∷ CharacterTimeout ∷ ThrEmpty ∷ []

-- The first interrupt of a list that is requested, or NonePending.
abbrev pub first_asking : ℕ → Port → List Interrupt → Interrupt
first_asking now port [] = NonePending
first_asking now port (interrupt ∷ later) = if asks now port interrupt then interrupt else first_asking now port later

-- The identified interrupt: of those requested, the one of highest priority.
unfoldable pub interrupt : ℕ → Port → Interrupt
interrupt now port = first_asking now port priorities

-- The number of an interrupt in the "Interrupt Identification Register".
abbrev pub id_number : Interrupt → ℕ
id_number LineStatus = 0x06
id_number ReceivedData = 0x04
id_number CharacterTimeout = 0x0c
id_number ThrEmpty = 0x02
id_number NonePending = 0x01

-- Whether the interrupt is that of an empty transmit list.
abbrev pub is_thr_empty : Interrupt → Bool
is_thr_empty ThrEmpty = true
is_thr_empty _ = false

-- Whether the interrupt is any but NonePending.
abbrev pub is_pending : Interrupt → Bool
is_pending NonePending = false
is_pending _ = true

-- Whether the interrupt line is high.
unfoldable pub line_of : ℕ → Port → Bool
line_of now port = is_pending (interrupt now port)

-- The invariant of ports: each list has at most sixteen bytes, and at most one without FIFOs.
pub record HasShortLists (port : Port) : Type 0 where
  pub held : IsShort (is_some port.fifos) port.receiver.held
  pub waiting : IsShort (is_some port.fifos) port.transmitter.waiting
