-- The laws of saving and restoring a clock board's devices that contracts name.
use Rattle.std.specs.Prelude.{◌≡◌, ℕ, List, Ok, ◌↔◌}
use Rattle.dev_base.specs.Levels.{IsUpTo}
use Rattle.dev_base.specs.declared.limits.TheConstants.{NEWEST}
use Rattle.dev_board.specs.SavedLaws.{IsTold as IsToldBoard}
use Rattle.dev_board.specs.declared.event.Event.{Event}
use Rattle.vms_rtc.specs.Laws.{IsTold as IsToldClock}
use Rattle.vms_rtc.specs.declared.limits.TheConstants.{NEWEST_CLOCK}
use Rattle.dev_clock.specs.Saved.{MaySaveUnder, saved, carried, AreSavedCells, AreClockCells, restored}
use Rattle.dev_clock.specs.Sound.{IsSound, Alike}
use Rattle.dev_clock.specs.State.{ClockState}
use Rattle.dev_clock.specs.Step.{observe}
use Rattle.dev_clock.specs.declared.cells.ClockCells.{ClockCells}

-- Sound devices are saved in normal cells of the clock set.
pub record SavedAreCells : Type 0 where
  pub of_set : (set : ℕ) (m : ClockState) → IsSound m → MaySaveUnder m.clock.version set → AreSavedCells set (saved set m)

-- `ComesBack version cells m`: the cells of the newest clock set may be restored at this version,
-- and give devices like `m`.
pub record ComesBack (version : ℕ) (cells : ClockCells) (m : ClockState) : Type 0 where
  pub may : AreClockCells cells
  pub back : ClockState
  pub restored : restored version cells ≡ Ok back
  pub alike : Alike m back

-- The cells saved of sound devices in any clock set from the version on, carried to the newest,
-- give devices like them.
pub record SavedComesBack : Type 0 where
  pub back : (set : ℕ) (m : ClockState) → IsSound m → MaySaveUnder m.clock.version set
      → ComesBack m.clock.version (carried set (saved set m)) m

-- The restored devices give the same answers to every list of events as the saved ones.
pub record SavedGoesOn : Type 0 where
  pub answers : (set : ℕ) (m back : ClockState) (events : List Event) → IsSound m → MaySaveUnder m.clock.version set
      → restored m.clock.version (carried set (saved set m)) ≡ Ok back → observe events back ≡ observe events m

-- Restored devices are sound and have the version of the restore.
pub record RestoredIsSound : Type 0 where
  pub sound : (version : ℕ) (cells : ClockCells) (m : ClockState) → IsUpTo NEWEST_CLOCK version → AreClockCells cells
      → restored version cells ≡ Ok m → IsSound m
  pub version : (version : ℕ) (cells : ClockCells) (m : ClockState) → restored version cells ≡ Ok m → m.clock.version ≡ version

-- `IsTold m`: a stream can describe the devices. It can describe the chip and the board, and the
-- board has the newest level.
pub record IsTold (m : ClockState) : Type 0 where
  pub clock : IsToldClock m.clock
  pub board : IsToldBoard m.board
  pub level : m.board.level ≡ NEWEST

-- Devices are sound exactly if a stream can describe them and their cells in the newest clock set
-- break no rule and agree on the lines.
pub record SoundMeetsRules : Type 0 where
  pub devices : (m : ClockState) → IsSound m
      ↔ (IsTold m × ((back : ClockState) × (restored m.clock.version (saved NEWEST_CLOCK m) ≡ Ok back)))
