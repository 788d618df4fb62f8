-- The family of the boards clk-1 and clk-2.
use Rattle.std.specs.Prelude.{List, ℤ}
use Rattle.dev_clock.specs.Saved.{saved, restored, AreClockCells}
use Rattle.dev_clock.specs.State.{ClockState, power_on}
use Rattle.dev_clock.specs.Step.{has_port, step}
use Rattle.dev_clock_images.specs.Images.{lists_of, cells_of}
use Rattle.dev_pic.specs.Pair.{int_of}
use Rattle.dev_pit.specs.Pit.{pit_out}
use Rattle.dev_serial.specs.Access.{room_of}
use Rattle.dev_serial.specs.Line.{character_time}
use Rattle.vms_desc.specs.Formed.{clock_set}
use Rattle.vms_rtc.specs.declared.limits.TheConstants.{NEWEST_CLOCK}
use Rattle.vms_board.specs.Family.{Family}
-- the machine that a board of a version is
pub use Rattle.vms_shipped.specs.ClockSets.{clock_machine}

-- The family. The number of a board is the version of its clock chip; all other devices are those of the board inside.
abbrev pub clock : Family ClockState
clock = record {
  set = clock_set;
  newest = NEWEST_CLOCK;
  machine = clock_machine;
  number = λ m. m.clock.version;
  moment = λ m. m.board.moment;
  int = λ m. int_of m.board.pair;
  output = λ counter m. pit_out counter m.board.moment m.board.pit;
  has_port = has_port;
  room = λ m. room_of m.board.serial;
  character = λ m. character_time m.board.serial.divisor m.board.serial.lcr;
  power_on = power_on;
  step = step;
  lists = λ set m. lists_of (saved set m);
  restored = λ version lists. restored version (cells_of lists);
}

-- The lists are the numbers of normal images of the newest clock set.
abbrev pub AreTold : List (List ℤ) → Type 0
AreTold lists = AreClockCells (cells_of lists)
