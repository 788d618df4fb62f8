-- Sessions: what the lines of a script do to a board and to the shelf, and their trace. See docs/scripts.md,
-- "Sessions".
use Rattle.std.specs.Prelude.{◌≡◌, ℕ, ◌<◌, ◌≤◌, ◌++◌, List, [], ◌∷◌, length, Option, Some, None}
use Rattle.dev_base.specs.declared.limits.TheConstants.{NEWEST}
use Rattle.dev_board.specs.State.{State, power_on}
use Rattle.dev_board.specs.Step.{step}
use Rattle.dev_board.specs.declared.event.Answer.{Answer}
use Rattle.vms_desc.specs.Formed.{shipped_set}
use Rattle.vms_io.specs.Shelves.{Held, PutsUnder}
use Rattle.vms_script.specs.Lines.{ScriptLine, Happens, Saves, Restores as Loads}
use Rattle.vms_script.specs.Trace.{trace_line}
use Rattle.vms_board.specs.Restoring.{Restore, Back, Refused, Restores}
use Rattle.vms_board.specs.Saving.{saved_stream}
use Rattle.vms_commands.specs.Fetching.{longest_file}
use Rattle.vms_session.specs.Lines.{saved_line, restored_line, missing_line, too_large_line, refused_line}
use Rattle.vms_board.specs.Isa.{isa}

-- The board and what the shelf holds.
pub record Session : Type 0 where
  pub board : State
  pub held : Held

-- A line leaves this text and this session.
pub record Leaves (said : List ℕ) (after : Session) (text : List ℕ) (new : Session) : Type 0 where
  pub text_is : text ≡ said
  pub new_is : new ≡ after

-- An event leaves its answer and the board after it.
abbrev pub Answers : Answer × State → Session → List ℕ → Session → Type 0
Answers done old text new = Leaves (trace_line done.0) (record old { board = done.1 }) text new

-- The name holds the stream now, in place of what it held.
pub record Stores (name stream : List ℕ) (old : Session) (text : List ℕ) (new : Session) : Type 0 where
  pub text_is : text ≡ saved_line (length stream)
  pub board : new.board ≡ old.board
  pub held : PutsUnder old.held new.held name stream

-- The result of a restore: the board that comes back, or a refusal that leaves the session unchanged.
abbrev pub ComesTo : Restore State → Session → List ℕ → Session → Type 0
ComesTo (Back m taken) old text new = Leaves (restored_line taken) (record old { board = m }) text new
ComesTo (Refused place section reason) old text new =
    Leaves (refused_line (shipped_set NEWEST) place section reason) old text new

-- A stream on the shelf is too large, or has a result when it is restored.
pub data LoadsBytes (bytes : List ℕ) (old : Session) (text : List ℕ) (new : Session) : Type 0 where
  IsTooLarge : longest_file < length bytes → Leaves too_large_line old text new → LoadsBytes bytes old text new
  IsLoaded : (restore : Restore State) → length bytes ≤ longest_file → Restores isa old.board.level bytes restore
      → ComesTo restore old text new → LoadsBytes bytes old text new

-- The same for what a name holds, or for nothing.
abbrev pub LoadsHeld : Option (List ℕ) → Session → List ℕ → Session → Type 0
LoadsHeld None old text new = Leaves missing_line old text new
LoadsHeld (Some bytes) old text new = LoadsBytes bytes old text new

-- What a line does.
abbrev pub Does : ScriptLine → Session → List ℕ → Session → Type 0
Does (Happens event) old text new = Answers (step event old.board) old text new
Does (Saves set name) old text new = Stores name (saved_stream isa set old.board) old text new
Does (Loads name) old text new = LoadsHeld (old.held name) old text new

-- A session at power on, with what the shelf holds.
abbrev pub begun : ℕ → Held → Session
begun level held = record { board = power_on level; held = held }
