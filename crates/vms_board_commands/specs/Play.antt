-- The outcome of the command `play`.
use Rattle.std.specs.Prelude.{◌≡◌, ℕ, List, [], Option, Some, IsSomeAnd}
use Rattle.vms_io.specs.Shelves.{Held}
use Rattle.vms_commands.specs.Outcomes.{Outcome, Part}
use Rattle.vms_commands.specs.Steps.{Step, HasBy}
use Rattle.vms_commands.specs.declared.ending.Ending.{Ending}
use Rattle.vms_commands.specs.declared.ending.Ending.TheVariants as endings
use Rattle.vms_session.specs.Parts.{Plays}
use Rattle.vms_session.specs.declared.line.PlayFault.{PlayFault}
use Rattle.vms_session.specs.declared.line.PlayFault.TheVariants as faults
use Rattle.vms_script.specs.Lines.{ScriptLine}
use Rattle.vms_session.specs.Session.{Session, begun}
use Rattle.vms_board_commands.specs.Causes.{play_course}
use Rattle.vms_board_commands.specs.Runs.{Task, unread_task}
use Rattle.vms_board_commands.specs.Scripts.{scripted}

-- All lines of a session are played, from power on and the files held. Each writes one part.
pub record PlaysAll (level : ℕ) (lines : List ScriptLine) (held : Held) (o : Outcome) : Type 0 where
  pub parts : List Part
  pub new : Session
  pub plays : Plays lines (begun level held) parts new
  pub outcome : o ≡ record { status = 0; parts = parts; note = []; taken = 0 }

-- The outcome with the script that `step` gives, if the shelf is known; or the end of that step.
abbrev pub PlaysBy : ℕ → Step (List ScriptLine) → Option Held → Outcome → Type 0
PlaysBy level step held o = HasBy (λ lines x. IsSomeAnd held (λ map. PlaysAll level lines map x)) step o

-- The task of `play` with the script `name`.
abbrev pub play_task : ℕ → List ℕ → Task
play_task level name = unread_task (λ held o. PlaysBy level (scripted (Some level) held name) held o) play_course

-- The task of `play` once the script has been read.
abbrev pub lines_task : ℕ → List ScriptLine → Task
lines_task level lines = unread_task (λ held o. IsSomeAnd held (λ map. PlaysAll level lines map o)) play_course

-- The ending of a session that stopped.
abbrev pub ending_by : PlayFault → Ending
ending_by faults.WriteFault = endings.WriteFault
ending_by faults.ShelfFault = endings.ShelfFault
ending_by faults.NoMemory = endings.NoMemory
