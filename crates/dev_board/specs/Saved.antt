-- What is saved of a board, and what restores it.
use Rattle.std.specs.Prelude.{ℕ, ℤ, pos, ◌+◌, nat_le, Bool, ◌&&◌, if◌then◌else◌, List, [], ◌∷◌, Result, Ok, Err}
use Rattle.vms_hooks.specs.Numbers.{Numbers}
use Rattle.vms_kinds.specs.declared.Kind.{Kind}
use Rattle.vms_kinds.specs.declared.Kind.TheVariants.{U64}
use Rattle.dev_base.specs.Bits.{has, same}
use Rattle.dev_base.specs.Cells.{number_at, AreOf}
use Rattle.dev_base.specs.Levels.{ReachesSet}
use Rattle.dev_base.specs.declared.limits.TheConstants.{NEWEST, LAST_MOMENT}
use Rattle.dev_pic.specs.Cells.{kinds as pic_kinds, saved_cells, carried as pic_carried}
use Rattle.dev_pic.specs.Pair.{lines_of, slave_int_of}
use Rattle.dev_pic.specs.Saved.{restored_pair}
use Rattle.dev_pic.specs.declared.fault.ChipFault.{ChipFault}
use Rattle.dev_pic.specs.declared.pair.PicPair.{PicPair}
use Rattle.dev_pit.specs.Cells.{pit_cells, carried as pit_carried, AreCellsOf}
use Rattle.dev_pit.specs.Pit.{pit_out}
use Rattle.dev_pit.specs.Saved.{restored_pit}
use Rattle.dev_pit.specs.declared.pit.Pit.{Pit}
use Rattle.dev_serial.specs.Cells.{IsPortCells, carried as serial_carried}
use Rattle.dev_serial.specs.Laws.{AreSaved}
use Rattle.dev_serial.specs.Port.{Port, line_of}
use Rattle.dev_serial.specs.Saved.{cells_at, restored_cells}
use Rattle.dev_board.specs.State.{State}
use Rattle.dev_board.specs.declared.cells.BoardCells.{BoardCells}
use Rattle.dev_board.specs.declared.misfit.Misfit.{Misfit}
use Rattle.dev_board.specs.declared.misfit.Misfit.TheVariants.{Unsound, LinesDisagree}
use Rattle.dev_board.specs.declared.misfit.TheConstants.{TIMER_DEVICE, MASTER_DEVICE, PIT_DEVICE, SERIAL_DEVICE}

-- `numbers_at set m` has the numbers of a pass that saves the board in the set.
abbrev pub numbers_at : ℕ → State → Numbers
numbers_at set m = record { level = m.level; set = set; moment = m.moment }

-- `saved set m` has the cells of the board's devices in the set.
unfoldable pub saved : ℕ → State → BoardCells
saved set m = record {
  timer = record { items = pos m.moment ∷ [] };
  master = record { items = saved_cells set m.pair.master };
  slave = record { items = saved_cells set m.pair.slave };
  pit = record { items = pit_cells set m.pit };
  serial = record { items = cells_at (numbers_at set m) m.serial };
}

-- `lists_of cells` is the list of the cells of a board's devices, in their order.
abbrev pub lists_of : BoardCells → List (List ℤ)
lists_of cells = cells.timer.items ∷ cells.master.items ∷ cells.slave.items ∷ cells.pit.items ∷ cells.serial.items ∷ []

-- `carried set cells` has the cells of the newest set that the cells, of `set`, are carried to,
-- with defaults where `set` has none.
unfoldable pub carried : ℕ → BoardCells → BoardCells
carried set cells = record {
  timer = cells.timer;
  master = record { items = pic_carried set cells.master.items };
  slave = record { items = pic_carried set cells.slave.items };
  pit = record { items = pit_carried set cells.pit.items };
  serial = record { items = serial_carried set cells.serial.items };
}

-- `MaySaveUnder level set`: a board of this level may be saved in this set, one from its level to
-- the newest.
abbrev pub MaySaveUnder : (level set : ℕ) → Type 0
MaySaveUnder level set = ReachesSet NEWEST level set

-- The kinds of the timer's cells.
abbrev pub timer_kinds : List Kind
timer_kinds = U64 ∷ []

-- `AreSavedCells set cells`: they are normal cells of the devices in the set, and each subsection
-- that isn't needed is at its defaults.
pub record AreSavedCells (set : ℕ) (cells : BoardCells) : Type 0 where
  pub timer : AreOf timer_kinds cells.timer.items
  pub master : AreOf (pic_kinds set) cells.master.items
  pub slave : AreOf (pic_kinds set) cells.slave.items
  pub pit : AreCellsOf set cells.pit.items
  pub serial : AreSaved set cells.serial.items

-- `AreBoardCells cells`: they are normal cells of the devices in the newest set.
pub record AreBoardCells (cells : BoardCells) : Type 0 where
  pub timer : AreOf timer_kinds cells.timer.items
  pub master : AreOf (pic_kinds NEWEST) cells.master.items
  pub slave : AreOf (pic_kinds NEWEST) cells.slave.items
  pub pit : AreCellsOf NEWEST cells.pit.items
  pub serial : IsPortCells cells.serial.items

-- `moment_of cells` is the moment that the cells describe.
abbrev pub moment_of : BoardCells → ℕ
moment_of cells = number_at cells.timer.items 0

-- `timed moment` is the moment, or its one rule if it is after the last.
unfoldable pub timed : ℕ → Result ℕ Misfit
timed moment = if nat_le moment LAST_MOMENT then Ok moment else Err (Unsound TIMER_DEVICE 1)

-- `by_chip outcome` is the pair, or the rule that fails for one of its chips, which are two devices
-- of a set.
unfoldable pub by_chip : Result PicPair ChipFault → Result PicPair Misfit
by_chip (Ok pair) = Ok pair
by_chip (Err fault) = Err (Unsound (MASTER_DEVICE + fault.chip) fault.rule)

-- `by_device place outcome` is the device, or its rule that fails.
unfoldable pub by_device : {D : Type 0} → ℕ → Result D ℕ → Result D Misfit
by_device place (Ok device) = Ok device
by_device place (Err rule) = Err (Unsound place rule)

-- `lines_agree m` tells whether the master remembers OUT of counter 0 at input 0, the slave's
-- interrupt output at input 2, and the serial port's line at input 4.
unfoldable pub lines_agree : State → Bool
lines_agree m =
    same (has (lines_of m.pair) 0) (pit_out 0 m.moment m.pit)
    && (same (has (lines_of m.pair) 2) (slave_int_of m.pair) && same (has (lines_of m.pair) 4) (line_of m.moment m.serial))

-- `agreed m` is the board if the lines agree.
unfoldable pub agreed : State → Result State Misfit
agreed m = if lines_agree m then Ok m else Err (LinesDisagree MASTER_DEVICE)

-- `joined level moment pair pit serial` is the board of these, or the first fault among them; the
-- lines are checked last.
unfoldable pub joined : ℕ → Result ℕ Misfit → Result PicPair Misfit → Result Pit Misfit → Result Port Misfit → Result State Misfit
joined level (Err misfit) pair pit serial = Err misfit
joined level (Ok moment) (Err misfit) pit serial = Err misfit
joined level (Ok moment) (Ok pair) (Err misfit) serial = Err misfit
joined level (Ok moment) (Ok pair) (Ok pit) (Err misfit) = Err misfit
joined level (Ok moment) (Ok pair) (Ok pit) (Ok serial) =
    agreed (record { level = level; moment = moment; pair = pair; pit = pit; serial = serial })

-- `numbers_back level moment` has the numbers of the pass that restores a board.
abbrev pub numbers_back : ℕ → ℕ → Numbers
numbers_back level moment = record { level = level; set = NEWEST; moment = moment }

-- `pair_back level master slave` is the pair that the cells describe, or the rule that fails.
abbrev pub pair_back : ℕ → List ℤ → List ℤ → Result PicPair Misfit
pair_back level master slave = by_chip (restored_pair level master slave)

-- `pit_back level moment cells` is the timer chip that the cells describe, or the rule that fails.
abbrev pub pit_back : ℕ → ℕ → List ℤ → Result Pit Misfit
pit_back level moment cells = by_device PIT_DEVICE (restored_pit level moment cells)

-- `serial_back level moment cells` is the serial port that the cells describe, or the rule that
-- fails.
abbrev pub serial_back : ℕ → ℕ → List ℤ → Result Port Misfit
serial_back level moment cells = by_device SERIAL_DEVICE (restored_cells (numbers_back level moment) cells)

-- `restored level cells` is the board of this level that cells of the newest set describe.
abbrev pub restored : ℕ → BoardCells → Result State Misfit
restored level cells =
    joined level (timed (moment_of cells)) (pair_back level cells.master.items cells.slave.items)
    (pit_back level (moment_of cells) cells.pit.items) (serial_back level (moment_of cells) cells.serial.items)
