-- What a call returns and does.
use Rattle.std.specs.Prelude.{◌≡◌, ℕ, List, Option, Some, IfSome}
use Rattle.vms_io.specs.Shelves.{Held, HoldsAll}
use Rattle.vms_commands.specs.Courses.{Stands}
use Rattle.vms_commands.specs.Fetching.{named_sets}
use Rattle.vms_commands.specs.Outcomes.{Outcome, Outside, DoesOrStops}
use Rattle.vms_cli.specs.Commands.{Asked, Check, asked_of, task_of}
use Rattle.vms_cli.specs.Commands.CheckCommand.{AreCompatible}
use Rattle.vms_cli.specs.Continuation.{Continuation}
use Rattle.vms_cli.specs.Rows.{CanAnswer}
use Rattle.vms_cli.specs.Upgrade.{Upgrade}

-- The outcome of a command, given the rest of the input and what the shelf holds. A command that depends on unknown
-- contents has none.
abbrev pub HasOutcome : Option Asked → Option (List ℕ) → Option Held → Outcome → Type 0
HasOutcome asked input held o = (task_of asked).has input held o

-- `check` succeeds only if the two sets are compatible.
abbrev pub Verdict : Option Asked → Option Held → ℕ → Type 0
Verdict (Some (Check old new)) held status = status ≡ 0 → AreCompatible (named_sets held old new)
Verdict asked held status = Unit {0}

-- What a call guarantees, whatever the arguments are.
pub record Answers (words : List (List ℕ)) (status : ℕ) (old new : Outside) : Type 0 where
  pub outcome : (o : Outcome) → HasOutcome (asked_of words) old.input.left old.shelf.held o → DoesOrStops status old new o
  pub row : CanAnswer (asked_of words) status old new
  -- if `check` succeeds, the two sets are compatible
  pub verdict : Verdict (asked_of words) old.shelf.held status
  -- and with such sets the newer shows what the older wrote, as carried
  pub upgrade : Upgrade (asked_of words) status old new
  -- and the stream of a board is loaded as that board, which goes on
  pub continuation : Continuation (asked_of words) status old new
  -- and no recorded failure is lost, and each promise stays
  pub stands : Stands old new
  -- what the shelf held before is bytes, as it is for each shelf
  pub octets : IfSome old.shelf.held HoldsAll
