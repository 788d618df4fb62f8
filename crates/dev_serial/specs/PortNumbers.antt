-- A port as the numbers in a stream, by their names there.
use Rattle.std.specs.Prelude.{ℕ, ℤ, pos, negsuc, ◌+◌, ◌*◌, ◌/◌, ◌==◌, Bool, nat_le, ◌&&◌, not, if◌then◌else◌, List, [], ◌∷◌, Option, Some, None}
use Rattle.std.specs.Ordering.{int_eq}
use Rattle.dev_base.specs.Bits.{has}
use Rattle.dev_serial.specs.Fifo.{trigger_of, trigger_number}
use Rattle.dev_serial.specs.Port.{Port, interrupt, id_number, is_thr_empty}
use Rattle.dev_serial.specs.Access.{lsr_of}
use Rattle.dev_serial.specs.Stored.{counted_of, counted_bytes, ring_of, ring_bytes}
use Rattle.dev_serial.specs.declared.levels.TheConstants.{RINGS_SINCE}
use Rattle.dev_serial.specs.declared.numbers.PortNumbers.{PortNumbers}
use Rattle.dev_serial.specs.declared.shift.Shift.{Shift}
use Rattle.dev_serial.specs.declared.stored.Counted.{Counted}
use Rattle.dev_serial.specs.declared.stored.Ring.{Ring}
use Rattle.dev_serial.specs.declared.trigger.Trigger.{Trigger}
use Rattle.dev_serial.specs.declared.numbers.TheConstants.{NEVER}

-- The number of a timer, which is NEVER if it isn't pending.
abbrev pub moment_number : Option ℕ → ℕ
moment_number None = NEVER
moment_number (Some moment) = moment

-- The moment at which the shift register's byte is sent, or NEVER if it is idle.
abbrev pub due_number : Option Shift → ℕ
due_number None = NEVER
due_number (Some shift) = shift.due

-- The byte in the shift register, or 0 if it is idle.
abbrev pub shift_number : Option Shift → ℕ
shift_number None = 0
shift_number (Some shift) = shift.byte

-- The first byte, or 0 if there is none.
abbrev pub first_byte : List ℕ → ℕ
first_byte [] = 0
first_byte (byte ∷ bytes) = byte

-- The byte held while FIFOs are off, or 0.
abbrev pub single_byte : Option Trigger → List ℕ → ℕ
single_byte None bytes = first_byte bytes
single_byte (Some trigger) bytes = 0

-- The bytes held while FIFOs are on.
abbrev pub fifo_bytes : Option Trigger → List ℕ → List ℕ
fifo_bytes None bytes = []
fifo_bytes (Some trigger) bytes = bytes

-- The bytes that set `set` keeps in a counted array: all, if it has no rings.
abbrev pub in_array : ℕ → Option Trigger → List ℕ → List ℕ
in_array set fifos bytes = if nat_le RINGS_SINCE set then [] else fifo_bytes fifos bytes

-- The bytes that set `set` keeps in a ring: all, if it has rings.
abbrev pub in_ring : ℕ → Option Trigger → List ℕ → List ℕ
in_ring set fifos bytes = if nat_le RINGS_SINCE set then fifo_bytes fifos bytes else []

-- The FIFO Control Register: 0 while FIFOs are off, else bit 0 and the trigger in bits 7 and 6.
abbrev pub fcr_number : Option Trigger → ℕ
fcr_number None = 0
fcr_number (Some trigger) = 1 + 64 * trigger_number trigger

-- The latch in a stream: 1 if it is set, enabled and hidden by another interrupt, else -1.
abbrev pub ipending_of : Bool → Bool → Bool → ℤ
ipending_of enabled latch identified = if enabled && (latch && not identified) then pos 1 else negsuc 0

-- `saved set now port` is what set `set` saves for `port` at the moment `now`.
unfoldable pub saved : ℕ → ℕ → Port → PortNumbers
saved set now port = record {
  divisor = port.divisor;
  ier = port.ier;
  iir = id_number (interrupt now port);
  lcr = port.lcr;
  mcr = port.mcr;
  lsr = lsr_of port;
  scr = port.scr;
  rbr = single_byte port.fifos port.receiver.held;
  thr = single_byte port.fifos port.transmitter.waiting;
  tsr = shift_number port.transmitter.shift;
  tx_due = due_number port.transmitter.shift;
  fcr = fcr_number port.fifos;
  thr_ipending = ipending_of (has port.ier 1) port.thr_empty (is_thr_empty (interrupt now port));
  rx = counted_of (in_array set port.fifos port.receiver.held);
  tx = counted_of (in_array set port.fifos port.transmitter.waiting);
  timeout_at = moment_number port.receiver.timeout;
  rx_ring = ring_of (in_ring set port.fifos port.receiver.held);
  tx_ring = ring_of (in_ring set port.fifos port.transmitter.waiting);
}

-- The moment of a timer, if it is pending.
abbrev pub moment_of : ℕ → Option ℕ
moment_of number = if number == NEVER then None else Some number

-- The contents of the shift register, if it isn't idle.
abbrev pub shift_of : ℕ → ℕ → Option Shift
shift_of tsr tx_due = if tx_due == NEVER then None else Some (record { byte = tsr; due = tx_due })

-- The trigger, if the FIFOs are on.
abbrev pub fifos_of : ℕ → Option Trigger
fifos_of fcr = if fcr == 0 then None else Some (trigger_of (fcr / 64))

-- The bytes of a FIFO: those of the counted array if its count isn't 0, else those of the ring.
abbrev pub stored_bytes : Counted → Ring → List ℕ
stored_bytes array ring = if array.count == 0 then ring_bytes ring else counted_bytes array

-- The bytes of a list. While FIFOs are off these are `byte` alone, if it is held.
abbrev pub bytes_held : ℕ → Bool → ℕ → List ℕ → List ℕ
bytes_held fcr is_held byte bytes = if fcr == 0 then (if is_held then byte ∷ [] else []) else bytes

-- The latch. If the number is -1, it is set exactly if its interrupt is identified.
abbrev pub latch_of : ℕ → ℤ → Bool
latch_of iir ipending = if int_eq ipending (negsuc 0) then iir == 2 else int_eq ipending (pos 1)

-- The port of these numbers at level `level`, with the bytes `rx` and `tx` in its FIFOs.
abbrev pub port_with : ℕ → PortNumbers → List ℕ → List ℕ → Port
port_with level numbers rx tx = record {
  level = level;
  divisor = numbers.divisor;
  ier = numbers.ier;
  lcr = numbers.lcr;
  mcr = numbers.mcr;
  scr = numbers.scr;
  fifos = fifos_of numbers.fcr;
  receiver = record {
    held = bytes_held numbers.fcr (has numbers.lsr 0) numbers.rbr rx;
    overrun = has numbers.lsr 1;
    timeout = moment_of numbers.timeout_at;
  };
  transmitter = record {
    waiting = bytes_held numbers.fcr (not (has numbers.lsr 5)) numbers.thr tx;
    shift = shift_of numbers.tsr numbers.tx_due;
  };
  thr_empty = latch_of numbers.iir numbers.thr_ipending;
}

-- The port of these numbers at level `level`.
unfoldable pub port_of : ℕ → PortNumbers → Port
port_of level numbers =
    port_with level numbers (stored_bytes numbers.rx numbers.rx_ring) (stored_bytes numbers.tx numbers.tx_ring)
