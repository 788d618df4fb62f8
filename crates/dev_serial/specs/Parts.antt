-- The two halves of a port as contracts see them.
use Rattle.std.specs.Prelude.{◌≡◌, ℕ, ◌≤◌, Bool, false, List, length, Option}
use Rattle.dev_serial.specs.declared.fifo.TheConstants.{FIFO_BYTES}
use Rattle.dev_serial.specs.declared.shift.Shift.{Shift}

-- The receiver: the bytes held, the oldest first, the overrun flag, and the moment of the timeout.
pub record ReceiverState : Type 0 where
  pub held : List ℕ
  pub overrun : Bool
  pub timeout : Option ℕ

-- The transmitter: the bytes that wait, the oldest first, and the shift register, which may be
-- idle.
pub record TransmitterState : Type 0 where
  pub waiting : List ℕ
  pub shift : Option Shift

-- The list has at most sixteen bytes, and at most one without FIFOs.
pub record IsShort (has_fifos : Bool) (bytes : List ℕ) : Type 0 where
  pub short : length bytes ≤ FIFO_BYTES
  pub one : has_fifos ≡ false → length bytes ≤ 1
