-- What is saved of a clock board's devices, and what restores them.
use Rattle.std.specs.Prelude.{ℕ, ℤ, ◌+◌, ◌≤◌, Bool, if◌then◌else◌, List, Result, Ok, Err}
use Rattle.vms_hooks.specs.Numbers.{Numbers}
use Rattle.dev_base.specs.Bits.{has, same}
use Rattle.dev_base.specs.Cells.{number_at, AreOf}
use Rattle.dev_base.specs.Levels.{ReachesSet}
use Rattle.dev_base.specs.declared.limits.TheConstants.{NEWEST}
use Rattle.dev_board.specs.Saved.{saved as board_saved, carried as board_carried, restored as board_restored, by_device, AreBoardCells, AreSavedCells as AreBoardSaved}
use Rattle.dev_board.specs.State.{State}
use Rattle.dev_board.specs.declared.misfit.Misfit.{Misfit}
use Rattle.dev_board.specs.declared.misfit.Misfit.TheVariants.{Unsound, LinesDisagree}
use Rattle.vms_rtc.specs.Cells.{kinds, saved_cells, carried as clock_carried}
use Rattle.vms_rtc.specs.Chip.{line_of}
use Rattle.vms_rtc.specs.Saved.{restored as clock_restored}
use Rattle.vms_rtc.specs.declared.limits.TheConstants.{NEWEST_CLOCK}
use Rattle.vms_rtc.specs.declared.rtc.Rtc.{Rtc}
use Rattle.dev_clock.specs.State.{ClockState}
use Rattle.dev_clock.specs.declared.cells.ClockCells.{ClockCells}
use Rattle.dev_clock.specs.declared.saved.TheConstants.{CLOCK_DEVICE, LINE_RULE, LINES_CELL}

-- `MaySaveUnder version set`: devices of this version may be saved in this clock set, one from the
-- version to the newest.
abbrev pub MaySaveUnder : (version set : ℕ) → Type 0
MaySaveUnder version set = ReachesSet NEWEST_CLOCK version set

-- `saved set m` has the cells of the devices in the clock set. The board's devices have those of
-- the newest shipped set in each.
unfoldable pub saved : ℕ → ClockState → ClockCells
saved set m = record { clock = record { items = saved_cells set m.clock }; board = board_saved NEWEST m.board }

-- `carried set cells` has the cells of the newest clock set that the cells, of `set`, are carried
-- to, with defaults where `set` has none.
unfoldable pub carried : ℕ → ClockCells → ClockCells
carried set cells = record {
  clock = record { items = clock_carried set cells.clock.items };
  board = board_carried NEWEST cells.board;
}

-- `AreSavedCells set cells`: they are normal cells in the clock set, and each subsection that isn't
-- needed is at its defaults.
pub record AreSavedCells (set : ℕ) (cells : ClockCells) : Type 0 where
  pub clock : AreOf (kinds set) cells.clock.items
  pub board : AreBoardSaved NEWEST cells.board

-- `AreClockCells cells`: they are normal cells in the newest clock set.
pub record AreClockCells (cells : ClockCells) : Type 0 where
  pub clock : AreOf (kinds NEWEST_CLOCK) cells.clock.items
  pub board : AreBoardCells cells.board

-- `numbers_back version moment` has the numbers of the pass that restores the chip.
abbrev pub numbers_back : ℕ → ℕ → Numbers
numbers_back version moment = record { level = version; set = NEWEST_CLOCK; moment = moment }

-- `slave_line cells` is the line at the slave's first input, as the slave's cells have it.
abbrev pub slave_line : List ℤ → Bool
slave_line cells = has (number_at cells LINES_CELL) 0

-- `with_line line outcome` is the chip, if its rules hold and the slave remembers its line as it
-- is.
unfoldable pub with_line : Bool → Result Rtc ℕ → Result Rtc ℕ
with_line line (Err rule) = Err rule
with_line line (Ok clock) = if same line (line_of clock) then Ok clock else Err LINE_RULE

-- `clock_back version line cells` is the chip that the cells describe, or the first of its four
-- rules that fails.
abbrev pub clock_back : ℕ → Bool → List ℤ → Result Rtc Misfit
clock_back version line cells = by_device CLOCK_DEVICE (with_line line (clock_restored version cells))

-- `IsPlaced misfit`: the misfit of a board names one of its five devices.
abbrev pub IsPlaced : Misfit → Type 0
IsPlaced (Unsound device rule) = device ≤ 4
IsPlaced (LinesDisagree device) = device ≤ 4

-- `later misfit` is the misfit with its device one place later than in a shipped set.
unfoldable pub later : Misfit → Misfit
later (Unsound device rule) = Unsound (device + 1) rule
later (LinesDisagree device) = LinesDisagree (device + 1)

-- `joined clock board` is the chip and the board's devices, or the first fault.
unfoldable pub joined : Result Rtc Misfit → Result State Misfit → Result ClockState Misfit
joined (Err misfit) board = Err misfit
joined (Ok clock) (Err misfit) = Err (later misfit)
joined (Ok clock) (Ok board) = Ok (record { clock = clock; board = board })

-- `restored version cells` is the devices that cells of the newest clock set describe.
abbrev pub restored : ℕ → ClockCells → Result ClockState Misfit
restored version cells =
    joined (clock_back version (slave_line cells.board.slave.items) cells.clock.items) (board_restored NEWEST cells.board)
