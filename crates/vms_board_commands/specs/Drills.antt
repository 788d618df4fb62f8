-- Drills, with the streams of their saves. See docs/scripts.md, "Drills".
use Rattle.std.specs.Prelude.{ℕ, zero, suc, ◌+◌, ◌-◌, if◌then◌else◌, length}
use Rattle.dev_board.specs.State.{State}
use Rattle.dev_board.specs.Step.{step}
use Rattle.dev_board.specs.declared.event.Answer.{Answer}
use Rattle.vms_board_commands.specs.DrillEvents.{next_number, event_of}
use Rattle.vms_board_commands.specs.DrillProgress.{Progress, begun, went_on, is_save_due, set_of, saves_of}
use Rattle.vms_board.specs.Isa.{isa}
use Rattle.vms_board.specs.Saving.{saved_stream}

-- A drill in progress: events, board and counts; the number of bytes of all streams so far; and that of the last
-- stream, from which the board was restored, or 0.
pub record Drill : Type 0 where
  pub progress : Progress
  pub bytes : ℕ
  pub taken : ℕ

-- A drill of a level and a seed before its first event.
abbrev pub drill_begun : ℕ → ℕ → Drill
drill_begun level seed = record { progress = begun level seed; bytes = 0; taken = 0 }

-- The length of the stream that is saved of a board after `events` events.
abbrev pub stream_long : ℕ → State → ℕ
stream_long events m = length (saved_stream isa (set_of m.level (saves_of events - 1)) m)

-- The bytes of all streams after an event.
unfoldable pub bytes_after : ℕ → State → ℕ → ℕ
bytes_after events m bytes = if is_save_due events then bytes + stream_long events m else bytes

-- The bytes of the last stream after an event.
unfoldable pub taken_after : ℕ → State → ℕ → ℕ
taken_after events m taken = if is_save_due events then stream_long events m else taken

-- One event, and a save and a restore if they are due.
abbrev pub drill_on : Drill → Answer × State → Drill
drill_on drill done = record {
  progress = went_on drill.progress done;
  bytes = bytes_after (drill.progress.events + 1) done.1 drill.bytes;
  taken = taken_after (drill.progress.events + 1) done.1 drill.taken;
}

-- The drill after one event more.
abbrev pub with_drill_event : Drill → Drill
with_drill_event drill = drill_on drill (step (event_of (next_number drill.progress.number)) drill.progress.board)

-- The drill after `count` events more.
abbrev pub drilled_on : ℕ → Drill → Drill
drilled_on zero drill = drill
drilled_on (suc count) drill = drilled_on count (with_drill_event drill)

-- ---- the summary of a drill

-- The summary of a drill: events, bytes sent, events with the interrupt output high, saves, and bytes of all
-- streams.
pub record Summary : Type 0 where
  pub events : ℕ
  pub sent : ℕ
  pub raised : ℕ
  pub saves : ℕ
  pub bytes : ℕ

-- The summary of a drill.
abbrev pub summary_of : Drill → Summary
summary_of drill = record {
  events = drill.progress.events;
  sent = drill.progress.counts.sent;
  raised = drill.progress.counts.raised;
  saves = saves_of drill.progress.events;
  bytes = drill.bytes;
}
