-- The laws of saving and restoring a board that contracts name.
use Rattle.std.specs.Prelude.{◌≡◌, ℕ, List, length, Ok, ◌↔◌}
use Rattle.dev_base.specs.declared.limits.TheConstants.{NEWEST}
use Rattle.dev_serial.specs.Sound.{IsHeld}
use Rattle.dev_base.specs.Levels.{IsLevel}
use Rattle.dev_board.specs.Saved.{saved, carried, MaySaveUnder, AreSavedCells, AreBoardCells, restored}
use Rattle.dev_board.specs.Sound.{IsSound, Alike}
use Rattle.dev_board.specs.State.{State}
use Rattle.dev_board.specs.Step.{observe}
use Rattle.dev_board.specs.declared.cells.BoardCells.{BoardCells}
use Rattle.dev_board.specs.declared.event.Event.{Event}

-- A sound board is saved in normal cells of the set.
pub record SavedAreCells : Type 0 where
  pub of_set : (set : ℕ) (m : State) → IsSound m → MaySaveUnder m.level set → AreSavedCells set (saved set m)

-- `ComesBack level cells m`: the cells of the newest set may be restored at this level, and give a
-- board like `m`.
pub record ComesBack (level : ℕ) (cells : BoardCells) (m : State) : Type 0 where
  pub may : AreBoardCells cells
  pub back : State
  pub restored : restored level cells ≡ Ok back
  pub alike : Alike m back

-- The cells saved of a sound board in any set from its level on, carried to the newest set, give a
-- board like it.
pub record SavedComesBack : Type 0 where
  pub back : (set : ℕ) (m : State) → IsSound m → MaySaveUnder m.level set → ComesBack m.level (carried set (saved set m)) m

-- The restored board gives the same answers to every list of events as the saved one.
pub record SavedGoesOn : Type 0 where
  pub answers : (set : ℕ) (m back : State) (events : List Event) → IsSound m → MaySaveUnder m.level set → restored m.level (carried set (saved set m)) ≡ Ok back → observe events back ≡ observe events m

-- A restored board is sound and has the level of the restore.
pub record RestoredIsSound : Type 0 where
  pub sound : (level : ℕ) (cells : BoardCells) (m : State) → IsLevel level → AreBoardCells cells → restored level cells ≡ Ok m → IsSound m
  pub level : (level : ℕ) (cells : BoardCells) (m : State) → restored level cells ≡ Ok m → m.level ≡ level

-- `IsTold m`: a stream can describe the board. Its devices have its level, the timer chip has three
-- counters, and the serial port is one that a stream can describe. It is saved in normal cells of
-- the newest set.
pub record IsTold (m : State) : Type 0 where
  pub level : IsLevel m.level
  pub pair_level : m.pair.level ≡ m.level
  pub pit_level : m.pit.level ≡ m.level
  pub serial_level : m.serial.level ≡ m.level
  pub counters : length m.pit.counters ≡ 3
  pub serial : IsHeld m.serial
  pub cells : AreBoardCells (saved NEWEST m)

-- A board is sound exactly if a stream can describe it and its cells in the newest set break no
-- rule and agree on the lines.
pub record SoundMeetsRules : Type 0 where
  pub board : (m : State) → IsSound m ↔ (IsTold m × ((back : State) × (restored m.level (saved NEWEST m) ≡ Ok back)))
