-- Laws of drills that contracts name.
use Rattle.std.specs.Prelude.{◌≡◌, ℕ, ◌*◌, ◌≤◌}
use Rattle.dev_base.specs.Levels.{IsLevel}
use Rattle.vms_board_streams.specs.declared.memory.TheConstants.{STREAM_ROOM}
use Rattle.vms_board_commands.specs.DrillProgress.{begun, drilled, counted_all, nothing}
use Rattle.vms_board_commands.specs.DrillEvents.{events_after}
use Rattle.dev_board.specs.Sound.{IsSound, Alike}
use Rattle.dev_board.specs.State.{power_on}
use Rattle.dev_board.specs.Step.{observe, after_all}
use Rattle.vms_board_commands.specs.Drills.{drill_begun, drilled_on}
use Rattle.vms_board_commands.specs.declared.drills.events.TheConstants.{WAIT}
use Rattle.vms_board_commands.specs.declared.drills.schedule.TheConstants.{BETWEEN_SAVES}

-- A drill of a level and a seed, compared with the same events without any save.
pub record IsAsUnsaved (level seed count : ℕ) : Type 0 where
  pub progress : (drilled_on count (drill_begun level seed)).progress ≡ drilled count (begun level seed)
  pub counts : (drilled_on count (drill_begun level seed)).progress.counts
      ≡ counted_all (observe (events_after seed count) (power_on level)) nothing
  pub events : (drilled_on count (drill_begun level seed)).progress.events ≡ count
  pub alike : Alike (after_all (events_after seed count) (power_on level)) (drilled_on count (drill_begun level seed)).progress.board
  pub sound : IsSound (drilled_on count (drill_begun level seed)).progress.board

-- This is so for all drills.
pub record ProgressIsSame : Type 0 where
  pub same : (level seed count : ℕ) → IsLevel level → IsAsUnsaved level seed count

-- Each stream of a drill has fewer bytes than the room for one, so all together have at most that for each event.
pub record SizesAreSmall : Type 0 where
  pub bytes : (level seed count : ℕ) → IsLevel level
      → (drilled_on count (drill_begun level seed)).bytes ≤ STREAM_ROOM * count

-- The nanoseconds of a wait for each unit of its byte, the number of events from one save to the next, and the
-- bytes of the room for a stream.
pub record NumbersAre : Type 0 where
  pub wait : WAIT ≡ 100000
  pub saves : BETWEEN_SAVES ≡ 1000
  pub room : STREAM_ROOM ≡ 65536
