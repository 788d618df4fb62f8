-- Laws of drills that contracts name.
use Rattle.std.specs.Prelude.{◌≡◌, ℕ}
use Rattle.dev_base.specs.Levels.{IsLevel}
use Rattle.dev_board.specs.Laws.{AreEvents}
use Rattle.dev_board.specs.Sound.{IsSound, Alike}
use Rattle.dev_board.specs.State.{power_on}
use Rattle.dev_board.specs.Step.{observe, after_all}
use Rattle.vms_board_commands.specs.DrillEvents.{events_after}
use Rattle.vms_board_commands.specs.DrillProgress.{nothing, counted_all, begun, drilled}

-- The events of a seed are valid.
pub record EventsAreGood : Type 0 where
  pub are : (count seed : ℕ) → AreEvents (events_after seed count)

-- A drill of a level and a seed, compared with the same events without any save.
pub record IsAsUnsaved (level seed count : ℕ) : Type 0 where
  pub counts : (drilled count (begun level seed)).counts
      ≡ counted_all (observe (events_after seed count) (power_on level)) nothing
  pub alike : Alike (after_all (events_after seed count) (power_on level)) (drilled count (begun level seed)).board
  pub events : (drilled count (begun level seed)).events ≡ count
  pub same_level : (drilled count (begun level seed)).board.level ≡ level
  pub sound : IsSound (drilled count (begun level seed)).board

-- This is so for all drills.
pub record SavesLeaveCounts : Type 0 where
  pub same : (level seed count : ℕ) → IsLevel level → IsAsUnsaved level seed count
