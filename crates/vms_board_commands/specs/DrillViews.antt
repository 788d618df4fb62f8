-- What the code's drill in progress and its summary mean.
use Rattle.std.specs.Prelude.{◌*◌, ◌≤◌}
use Rattle.dev_board.specs.Sound.{IsSound}
use Rattle.dev_serial.specs.declared.transmitter.TheConstants.{MOST_SENT}
use Rattle.vms_board.specs.Isa.{isa}
use Rattle.vms_board_streams.specs.Sets.{AreOf}
use Rattle.vms_board_streams.specs.declared.memory.TheConstants.{STREAM_ROOM}
use Rattle.vms_board_commands.specs.DrillTallies.{tally_view}
use Rattle.vms_board_commands.specs.Drills.{Drill, Summary}
use Rattle.vms_board_commands.specs.declared.drills.progress.Progress.{Progress}
use Rattle.vms_board_commands.specs.declared.drills.fold.Summary as declared

-- The drill of the specification.
abbrev pub progress_view : Progress → Drill
progress_view c = record {
  progress = record { events = c.done; number = c.events.number; board = c.board.state; counts = tally_view c.tally };
  bytes = c.bytes;
  taken = c.board.taken;
}

-- Its board is sound, its sets are a board's, and no count is larger than the events so far allow.
pub record IsInProgress (c : Progress) : Type 0 where
  pub sound : IsSound c.board.state
  pub sets : AreOf isa c.sets
  pub sent : c.tally.sent ≤ MOST_SENT * c.done
  pub raised : c.tally.raised ≤ c.done
  pub bytes : c.bytes ≤ STREAM_ROOM * c.done

-- The summary of the specification.
abbrev pub summary_view : declared.Summary → Summary
summary_view s = record { events = s.events; sent = s.sent; raised = s.raised; saves = s.saves; bytes = s.bytes }
