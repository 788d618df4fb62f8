-- A drill: events, and after every thousandth one a board that is restored from what was saved.
use Rattle.std.specs.Prelude.{◌≡◌, ◌<◌, ℕ, zero, suc, ◌+◌, ◌-◌, ◌%◌, ◌/◌, ◌==◌, Bool, if◌then◌else◌, List, [], ◌∷◌, length, Result, Ok, Err}
use Rattle.dev_base.specs.declared.limits.TheConstants.{NEWEST}
use Rattle.dev_board.specs.Saved.{saved, carried, restored}
use Rattle.dev_board.specs.State.{State, power_on}
use Rattle.dev_board.specs.Step.{step}
use Rattle.dev_board.specs.declared.event.Answer.{Answer}
use Rattle.dev_board.specs.declared.misfit.Misfit.{Misfit}
use Rattle.vms_board.specs.Isa.{isa}
use Rattle.vms_board.specs.Saving.{saved_stream}
use Rattle.vms_board_streams.specs.declared.memory.TheConstants.{STREAM_ROOM}
use Rattle.vms_board_commands.specs.DrillEvents.{next_number, event_of}
use Rattle.vms_board_commands.specs.declared.drills.schedule.TheConstants.{BETWEEN_SAVES}

-- The number of bytes that the serial port sent, and the number of events after which the interrupt output was
-- high.
pub record Counts : Type 0 where
  pub sent : ℕ
  pub raised : ℕ

-- Counts of zero.
abbrev pub nothing : Counts
nothing = record { sent = 0; raised = 0 }

-- 1 if the interrupt output is high.
abbrev pub high : Bool → ℕ
high int = if int then 1 else 0

-- The counts with one answer more.
unfoldable pub counted : Answer → Counts → Counts
counted answer counts = record {
  sent = counts.sent + length answer.sent.items;
  raised = counts.raised + high answer.int;
}

-- The counts with these answers in order.
abbrev pub counted_all : List Answer → Counts → Counts
counted_all [] counts = counts
counted_all (answer ∷ answers) counts = counted_all answers (counted answer counts)

-- The board is saved after every thousandth event.
unfoldable pub is_save_due : ℕ → Bool
is_save_due events = events % BETWEEN_SAVES == 0

-- After `saves` saves the next set is one from the level to the newest, in turn.
unfoldable pub set_of : ℕ → ℕ → ℕ
set_of level saves = level + saves % (NEWEST - level + 1)

-- The board that is restored from what a set saves of a board.
abbrev pub back_of : State → Result State Misfit → State
back_of m (Ok back) = back
back_of m (Err misfit) = m

-- The board that is restored from what a board saves under a set, or the board itself if that is refused.
unfoldable pub came_back : ℕ → State → State
came_back set m = back_of m (restored m.level (carried set (saved set m)))

-- A board has come back from its own stream, as the set `set` saves it. The stream has `n` bytes, and all were taken.
pub record ComesBack (set : ℕ) (old new : State) (read n : ℕ) : Type 0 where
  pub state : new ≡ came_back set old
  pub long : n ≡ length (saved_stream isa set old)
  pub taken : read ≡ n
  pub short : n < STREAM_ROOM

-- The progress of a drill: the number of events, the number that chose the last of them (at first the seed), the
-- board, and the counts.
pub record Progress : Type 0 where
  pub events : ℕ
  pub number : ℕ
  pub board : State
  pub counts : Counts

-- The progress before the first event.
abbrev pub begun : ℕ → ℕ → Progress
begun level seed = record { events = 0; number = seed; board = power_on level; counts = nothing }

-- The number of saves after `events` events.
abbrev pub saves_of : ℕ → ℕ
saves_of events = events / BETWEEN_SAVES

-- The board after event number `events`: the restored one if a save is due, and else the same.
unfoldable pub after_save : ℕ → State → State
after_save events m =
    if is_save_due events then came_back (set_of m.level (saves_of events - 1)) m else m

-- One event, and a save if one is due.
abbrev pub went_on : Progress → Answer × State → Progress
went_on progress done = record {
  events = progress.events + 1;
  number = next_number progress.number;
  board = after_save (progress.events + 1) done.1;
  counts = counted done.0 progress.counts;
}

-- The progress after one event more.
abbrev pub with_event : Progress → Progress
with_event progress = went_on progress (step (event_of (next_number progress.number)) progress.board)

-- The progress after `count` events more.
abbrev pub drilled : ℕ → Progress → Progress
drilled zero progress = progress
drilled (suc count) progress = drilled count (with_event progress)
