-- What `load` does with streams that boards wrote.
use Rattle.std.specs.Prelude.{◌≡◌, ℕ, List, length, Option, None, Some}
use Rattle.dev_base.specs.Levels.{ReachesSet}
use Rattle.vms_board.specs.Family.{Family}
use Rattle.vms_board_commands.specs.Scripts.{scripted}
use Rattle.vms_board.specs.Saving.{stream_with}
use Rattle.vms_board_streams.specs.Streams.{HasRoomFor}
use Rattle.vms_commands.specs.Outcomes.{Outcome, Outside, DoesOrStops, done}
use Rattle.vms_commands.specs.SetWords.{BoardOf}
use Rattle.vms_commands.specs.Steps.{Step, Untold, Gives, Ends}
use Rattle.vms_script.specs.Lines.{ScriptLine}
use Rattle.vms_session.specs.Events.{events_of, trace_from}
use Rattle.vms_cli.specs.Commands.{Asked, Load}
use Rattle.vms_cli.specs.Kinds.{IsSoundOf, family_of}

module _ {S : Type 0} (f : Family S) where
  -- The outcome of `load` for what a board saved under a set, with or without a description: the trace of that
  -- board itself going on, and all of the stream is read.
  abbrev pub goes_on : ℕ → S → Option (List ℕ) → List ScriptLine → Outside → Outcome
  goes_on set m text lines old = done (trace_from f (events_of lines) m) old.shelf.held (length (stream_with f set m text))

  -- The continuation clause, if the script is known. The input is the stream that a sound board saved under a set
  -- from its number on, with any description that a stream may have, or none. Then `load` prints the trace of that
  -- board going on.
  abbrev pub ContinuesBy : (S → Type 0) → ℕ → Step (List ScriptLine) → ℕ → Outside → Outside → Type 0
  ContinuesBy IsSound number Untold status old new = Unit {0}
  ContinuesBy IsSound number (Ends own line) status old new = Unit {0}
  ContinuesBy IsSound number (Gives lines) status old new =
      (set : ℕ) (m : S) (text : Option (List ℕ)) → IsSound m → f.number m ≡ number → ReachesSet f.newest number set → HasRoomFor text
      → old.input.left ≡ Some (stream_with f set m text) → DoesOrStops status old new (goes_on set m text lines old)

-- The continuation clause of a command: it is about `load`.
abbrev pub Continuation : Option Asked → ℕ → Outside → Outside → Type 0
Continuation (Some (Load (BoardOf kind number) script)) status old new =
    ContinuesBy (family_of kind) (IsSoundOf kind) number (scripted None old.shelf.held script) status old new
Continuation asked status old new = Unit {0}
