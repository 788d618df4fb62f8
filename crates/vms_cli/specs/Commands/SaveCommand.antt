-- The command `save`: its outcome.
use Rattle.std.specs.Prelude.{ℕ, ◌&&◌, if◌then◌else◌, List, Option, Some, None, IsSomeAnd}
use Rattle.dev_base.specs.Levels.{ReachesSet}
use Rattle.vms_io.specs.Shelves.{Held}
use Rattle.vms_script.specs.Lines.{is_set_of}
use Rattle.vms_commands.specs.Kinds.{newest_of, same_kind}
use Rattle.vms_commands.specs.SetWords.{BoardWord, BoardOf, ShippedSet, SetOf}
use Rattle.vms_commands.specs.Steps.{Step}
use Rattle.vms_board_commands.specs.Causes.{save_course}
use Rattle.vms_board_commands.specs.Runs.{text_task}
use Rattle.vms_board_commands.specs.Save.{saved_after}
use Rattle.vms_cli.specs.Boards.{IsBoard, CanBeRead}
use Rattle.vms_cli.specs.Entry.{Entry}
use Rattle.vms_cli.specs.Kinds.{family_of}

-- The number of a set of the board's kind that is at or above the board.
abbrev pub saved_set : BoardWord → ShippedSet → Option ℕ
saved_set (BoardOf kind number) (SetOf of set) = if same_kind kind of && is_set_of (newest_of kind) number set then Some set else None

-- A set of the board's kind at or above it.
abbrev pub MaySaveOn : BoardWord → ℕ → Type 0
MaySaveOn (BoardOf kind number) set = ReachesSet (newest_of kind) number set

-- The step that gives the stream of a board after a script, under a set of the board's kind.
abbrev pub saved_on : BoardWord → ℕ → Option Held → List ℕ → Step (List ℕ)
saved_on (BoardOf kind number) set held script = saved_after (family_of kind) number set held script

-- The command `save BOARD SET SCRIPT`. Its words name an existing board and such a set; it needs a script.
abbrev pub save_entry : BoardWord → ℕ → List ℕ → Entry
save_entry board set script = record {
  task = text_task (λ held. saved_on board set held script) save_course;
  words = IsBoard board × MaySaveOn board set;
  needs = λ input held. IsSomeAnd held (λ map. CanBeRead None script map);
}
