-- What the table of commands says of a command.
use Rattle.std.specs.Prelude.{ℕ, List, Option}
use Rattle.vms_io.specs.Shelves.{Held}
use Rattle.vms_board_commands.specs.Runs.{Task}

-- `task` is what the command has to do. `words` is what the arguments that ask for it ensure. `needs` is what the
-- input and the shelf must have so that it can succeed.
pub record Entry : Type 1 where
  pub task : Task
  pub words : Type 0
  pub needs : Option (List ℕ) → Option Held → Type 0

-- The entry of a command whose arguments ensure nothing.
abbrev pub plain_entry : Task → (Option (List ℕ) → Option Held → Type 0) → Entry
plain_entry task needs = record { task = task; words = Unit {0}; needs = needs }
