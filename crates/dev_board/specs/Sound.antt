-- The states that a board may be in.
use Rattle.std.specs.Prelude.{◌≡◌, ◌≤◌}
use Rattle.dev_base.specs.Bits.{has}
use Rattle.dev_base.specs.Levels.{IsLevel}
use Rattle.dev_base.specs.declared.limits.TheConstants.{LAST_MOMENT}
use Rattle.dev_pic.specs.Pair.{lines_of, slave_int_of}
use Rattle.dev_pic.specs.Sound.{PairHasRegisters, IsSoundPair}
use Rattle.dev_pit.specs.Pit.{pit_out}
use Rattle.dev_pit.specs.Sound.{IsSoundPit}
use Rattle.dev_serial.specs.Port.{line_of}
use Rattle.dev_serial.specs.Sound.{IsSound as IsSoundPort, Alike as AlikePorts}
use Rattle.dev_board.specs.State.{State}

-- `HasDevices m` is what holds at any time: the devices have the board's level, and each keeps what
-- it always keeps.
pub record HasDevices (m : State) : Type 0 where
  pub level : IsLevel m.level
  pub moment : m.moment ≤ LAST_MOMENT
  pub pair_level : m.pair.level ≡ m.level
  pub pit_level : m.pit.level ≡ m.level
  pub serial_level : m.serial.level ≡ m.level
  pub pair : PairHasRegisters m.pair
  pub pit : IsSoundPit m.moment m.pit
  pub serial : IsSoundPort m.moment m.serial

-- `HasLines m`: the master remembers the devices' lines. These are OUT of counter 0 at input 0, the
-- slave's interrupt output at input 2, and the serial port's line at input 4.
pub record HasLines (m : State) : Type 0 where
  pub out : has (lines_of m.pair) 0 ≡ pit_out 0 m.moment m.pit
  pub slave : has (lines_of m.pair) 2 ≡ slave_int_of m.pair
  pub serial : has (lines_of m.pair) 4 ≡ line_of m.moment m.serial

-- `IsSound m`: the board is sound between events. The pair's requests of level inputs are their
-- lines, too.
pub record IsSound (m : State) : Type 0 where
  pub devices : HasDevices m
  pub pair : IsSoundPair m.pair
  pub lines : HasLines m

-- `Alike m n`: the boards differ at most in the serial port's latch, and not while its interrupt is
-- enabled.
pub record Alike (m n : State) : Type 0 where
  pub same : n ≡ record m { serial = n.serial }
  pub serial : AlikePorts m.serial n.serial
