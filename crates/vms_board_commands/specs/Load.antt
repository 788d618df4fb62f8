-- The outcome of the command `load`, and what can be said of its input.
use Rattle.std.specs.Prelude.{◌≡◌, ℕ, ◌+◌, ◌≤◌, List, [], ◌∷◌, Option, None, IsSomeAnd}
use Rattle.vms_board.specs.Family.{Family}
use Rattle.vms_board.specs.Restoring.{Back, IsMisfitAt, Restores}
use Rattle.vms_board_streams.specs.Streams.{answers_to, trace_of}
use Rattle.vms_io.specs.Shelves.{Held}
use Rattle.vms_io.specs.Told.{Intake, Outlet}
use Rattle.vms_load.specs.Staging.{most_given}
use Rattle.vms_commands.specs.Lines.{refused_line}
use Rattle.vms_commands.specs.Outcomes.{Outcome, done, ended}
use Rattle.vms_commands.specs.Steps.{Step, Ends}
use Rattle.vms_session.specs.Events.{events_of}
use Rattle.vms_script.specs.Lines.{ScriptLine}
use Rattle.vms_spec.specs.declared.Reason.{Reason}
use Rattle.vms_stream.specs.Faults.{Fault}
use Rattle.vms_commands.specs.declared.ending.Ending.{Ending}
use Rattle.vms_board_commands.specs.Causes.{load_course, stream_course}
use Rattle.vms_board_commands.specs.Runs.{ReadsBy, RunsBehind, Task, read_task}
use Rattle.vms_board_commands.specs.Scripts.{scripted}
use Rattle.vms_board_commands.specs.Seen.{WithGiven}

-- The outcome is the trace of the script's events on the board that the input restores. If the
-- input is refused, it is the refusal's line, and the bytes up to the end of the invalid unit are
-- read; or those of the whole stream, if no board has its state. The shelf is unchanged.
pub data Loads {S : Type 0} (f : Family S) (number : ℕ) (lines : List ScriptLine) (input : List ℕ) (held : Option Held) : Outcome → Type 0 where
  Traces : (board : S) (taken : ℕ) → Restores f number input (Back board taken)
      → Loads f number lines input held (done (trace_of (answers_to f (events_of lines) board)) held taken)
  Faulty : (place : ℕ) (section : Option ℕ) (reason : Reason) (size : ℕ)
      → Fault (f.set f.newest) (f.machine number ∷ []) input place section reason size
      → Loads f number lines input held (ended 1 (refused_line (f.set f.newest) place section reason) (place + size))
  Unfit : (place : ℕ) (section : Option ℕ) (reason : Reason) → IsMisfitAt f number input place section reason
      → Loads f number lines input held (ended 1 (refused_line (f.set f.newest) place section reason) place)

-- The outcome with the script that `step` gives, if the input is known; or the end of that step,
-- before the input is read.
abbrev pub LoadsBy : {S : Type 0} → Family S → ℕ → Step (List ScriptLine) → Option (List ℕ) → Option Held → Outcome → Type 0
LoadsBy f number step input held o = ReadsBy (Loads f number) step input held o

-- The most bytes that are read from the input: as many as a stream of the newest set may have, and
-- none without a script.
abbrev pub LoadGives : {A S : Type 0} → Family S → Step A → Intake → Intake → Type 0
LoadGives f (Ends status line) input input' = input' ≡ input
LoadGives f step input input' = input'.given ≤ input.given + most_given (f.set f.newest)

-- The outcome of these bytes, with the script that `step` gave, or with any if that is unknown.
abbrev pub LoadsWith : {S : Type 0} → Family S → ℕ → Step (List ScriptLine) → Option Held → List ℕ → Outcome → Type 0
LoadsWith f number step held = WithGiven step (λ lines bytes o. Loads f number lines bytes held o)

-- The task of `load` for the board with this number and the script `name`.
abbrev pub load_task : {S : Type 0} → Family S → ℕ → List ℕ → Task
load_task f number name =
    read_task (λ held. scripted None held name) (Loads f number) (λ held lines bytes o. Loads f number lines bytes held o) (LoadGives f) load_course

-- The same, once the script has been read.
pub record LoadsStream {S : Type 0} (f : Family S) (number : ℕ) (lines : List ScriptLine) (i i' : Intake) (o o' : Outlet) (e : Option Ending) : Type 0 where
  pub runs : RunsBehind (λ left held x. IsSomeAnd left (λ bytes. Loads f number lines bytes held x)) (λ held bytes x. Loads f number lines bytes held x) stream_course i i' o o' e
  pub given : i'.given ≤ i.given + most_given (f.set f.newest)
