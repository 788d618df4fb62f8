-- The states that a clock board's devices may be in.
use Rattle.std.specs.Prelude.{◌≡◌}
use Rattle.dev_base.specs.Bits.{has}
use Rattle.dev_base.specs.declared.limits.TheConstants.{NEWEST}
use Rattle.dev_board.specs.Sound.{IsSound as IsSoundBoard, Alike as AlikeBoards}
use Rattle.dev_pic.specs.Pair.{lines_of}
use Rattle.vms_rtc.specs.Chip.{line_of}
use Rattle.vms_rtc.specs.Sound.{IsSound as IsSoundClock}
use Rattle.dev_clock.specs.State.{ClockState}
use Rattle.dev_clock.specs.declared.devices.TheConstants.{CLOCK_INPUT}

-- `HasDevices m` is what holds at any time: the chip is sound, and the board's devices have the
-- newest level.
pub record HasDevices (m : ClockState) : Type 0 where
  pub clock : IsSoundClock m.clock
  pub level : m.board.level ≡ NEWEST

-- `IsSound m`: between events the board's devices are sound, and the slave remembers the chip's
-- line.
pub record IsSound (m : ClockState) : Type 0 where
  pub devices : HasDevices m
  pub board : IsSoundBoard m.board
  pub line : has (lines_of m.board.pair) CLOCK_INPUT ≡ line_of m.clock

-- `Alike m n`: the chips are equal and the boards' devices are alike.
pub record Alike (m n : ClockState) : Type 0 where
  pub clock : n.clock ≡ m.clock
  pub board : AlikeBoards m.board n.board
