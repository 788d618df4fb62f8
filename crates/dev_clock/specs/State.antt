-- The state of a clock board's devices.
use Rattle.std.specs.Prelude.{ℕ}
use Rattle.dev_base.specs.declared.limits.TheConstants.{NEWEST}
use Rattle.dev_board.specs.State.{State, power_on as board_on}
use Rattle.vms_rtc.specs.Chip.{power_on as clock_on}
use Rattle.vms_rtc.specs.declared.rtc.Rtc.{Rtc}

-- `ClockState` has the chip, and the devices of a board of the newest level.
pub record ClockState : Type 0 where
  pub clock : Rtc
  pub board : State

-- `power_on version` is the devices at power on, with a chip of this version.
unfoldable pub power_on : ℕ → ClockState
power_on version = record { clock = clock_on version; board = board_on NEWEST }
