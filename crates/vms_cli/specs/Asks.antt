-- What arguments of the code name, as arguments of the specification.
use Rattle.std.specs.Prelude.{ℕ}
use Rattle.vms_commands.specs.SetWords.{BoardWord, BoardOf}
use Rattle.vms_cli.specs.declared.boards.SavedBoard.{SavedBoard}

-- A board, and the number of a set.
abbrev pub saved_asked : SavedBoard → BoardWord × ℕ
saved_asked board = (BoardOf board.kind board.number, board.set)
