-- The levels of a device, and the passes by which it is saved and restored.
use Rattle.std.specs.Prelude.{◌≡◌, ℕ, ◌≤◌}
use Rattle.vms_hooks.specs.Numbers.{Numbers}
use Rattle.dev_base.specs.declared.limits.TheConstants.{NEWEST, LAST_MOMENT}

-- `IsUpTo newest level`: devices have this level, the newest being `newest`.
pub record IsUpTo (newest level : ℕ) : Type 0 where
  pub first : 1 ≤ level
  pub last : level ≤ newest

-- `ReachesSet newest level set`: a device of this level may be saved in this set, one from the
-- level to the newest.
pub record ReachesSet (newest level set : ℕ) : Type 0 where
  pub level_le_set : level ≤ set
  pub set_le_newest : set ≤ newest

-- `MaySaveUpTo newest numbers level`: the pass may save a device of this level. It has this level,
-- a set from the level to the newest, and a moment of a board.
pub record MaySaveUpTo (newest : ℕ) (numbers : Numbers) (level : ℕ) : Type 0 where
  pub is_level : IsUpTo newest level
  pub own_level : numbers.level ≡ level
  pub level_le_set : numbers.level ≤ numbers.set
  pub set_le_newest : numbers.set ≤ newest
  pub moment : numbers.moment ≤ LAST_MOMENT

-- `MayRestoreFrom newest numbers`: the pass may restore a device. It has a level that devices have,
-- the newest set, and a moment of a board.
pub record MayRestoreFrom (newest : ℕ) (numbers : Numbers) : Type 0 where
  pub is_level : IsUpTo newest numbers.level
  pub newest_set : numbers.set ≡ newest
  pub moment : numbers.moment ≤ LAST_MOMENT

-- ---- the devices of the boards isa-1 to isa-4

-- `IsLevel level`: boards have this level, 1 to 4.
abbrev pub IsLevel : ℕ → Type 0
IsLevel level = IsUpTo NEWEST level

-- `MaySave numbers level`: the pass may save a device of this level.
abbrev pub MaySave : Numbers → ℕ → Type 0
MaySave numbers level = MaySaveUpTo NEWEST numbers level

-- `MayRestore numbers`: the pass may restore a device.
abbrev pub MayRestore : Numbers → Type 0
MayRestore numbers = MayRestoreFrom NEWEST numbers
