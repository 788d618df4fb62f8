-- The command `drill`.
use Rattle.std.specs.Prelude.{ℕ, if◌then◌else◌, nat_le, Option, Some, None}
use Rattle.dev_base.specs.Levels.{IsLevel}
use Rattle.vms_board_commands.specs.Drill.{drill_task}
use Rattle.vms_cli.specs.Entry.{Entry}
use Rattle.vms_cli.specs.declared.board_words.TheConstants.{MOST_EVENTS}

-- The most events that a drill may have.
abbrev pub most_events : ℕ
most_events = MOST_EVENTS

-- A number of events within that limit.
abbrev pub few_events : Option ℕ → Option ℕ
few_events None = None
few_events (Some n) = if nat_le n most_events then Some n else None

-- The command `drill BOARD SEED COUNT` of a board by its level. Its words name an existing one; it needs nothing.
abbrev pub drill_entry : (level seed count : ℕ) → Entry
drill_entry level seed count = record {
  task = drill_task level seed count;
  words = IsLevel level;
  needs = λ input held. Unit {0};
}
