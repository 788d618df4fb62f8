-- The command `play`.
use Rattle.std.specs.Prelude.{ℕ, List, Some, IsSomeAnd}
use Rattle.dev_base.specs.Levels.{IsLevel}
use Rattle.vms_board_commands.specs.Play.{play_task}
use Rattle.vms_cli.specs.Boards.{CanBeRead}
use Rattle.vms_cli.specs.Entry.{Entry}

-- The command `play BOARD SCRIPT` of a board by its level. Its words name an existing one; it needs a script of a
-- session.
abbrev pub play_entry : ℕ → List ℕ → Entry
play_entry level script = record {
  task = play_task level script;
  words = IsLevel level;
  needs = λ input held. IsSomeAnd held (λ map. CanBeRead (Some level) script map);
}
