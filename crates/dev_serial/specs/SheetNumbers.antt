-- The numbers of the data sheet and of the format. Definitions cite the constants that the code
-- uses; this file gives their values.
use Rattle.std.specs.Prelude.{◌≡◌}
use Rattle.dev_serial.specs.declared.fifo.TheConstants.{FIFO_BYTES}
use Rattle.dev_serial.specs.declared.levels.TheConstants.{FIFOS_SINCE, TIMEOUT_SINCE, RINGS_SINCE}
use Rattle.dev_serial.specs.declared.mode.TheConstants.{LONGEST_CHARACTER}
use Rattle.dev_serial.specs.declared.numbers.TheConstants.{NEVER}
use Rattle.dev_serial.specs.declared.transmitter.TheConstants.{MOST_SENT}

-- The values of these constants.
pub record NumbersAre : Type 0 where
  -- The bytes that a FIFO can hold, and the most that one call sends: a full FIFO and the shift
  -- register.
  pub fifo : FIFO_BYTES ≡ 16
  pub sent : MOST_SENT ≡ 17
  -- The longest time of a character in nanoseconds, and the number of a timer that isn't pending.
  pub character : LONGEST_CHARACTER ≡ 6826562500
  pub never : NEVER ≡ 18446744073709551615
  -- The first levels with FIFOs, the character timeout and FIFOs in rings; also the first sets that
  -- save them.
  pub fifos : FIFOS_SINCE ≡ 2
  pub timeout : TIMEOUT_SINCE ≡ 3
  pub rings : RINGS_SINCE ≡ 4
