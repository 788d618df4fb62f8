-- The command `load`: its outcome, and what it sees of its input.
use Rattle.std.specs.Prelude.{ℕ, List, Option, None, IsSomeAnd}
use Rattle.vms_io.specs.Shelves.{Held}
use Rattle.vms_io.specs.Told.{Intake}
use Rattle.vms_board.specs.Restoring.{Back, Restores}
use Rattle.vms_commands.specs.Outcomes.{Outcome}
use Rattle.vms_commands.specs.SetWords.{BoardWord, BoardOf}
use Rattle.vms_board_commands.specs.Causes.{load_course}
use Rattle.vms_board_commands.specs.Load.{LoadGives, LoadsBy, LoadsWith}
use Rattle.vms_board_commands.specs.Scripts.{scripted}
use Rattle.vms_cli.specs.Boards.{IsBoard, CanBeRead}
use Rattle.vms_cli.specs.Entry.{Entry}
use Rattle.vms_cli.specs.Kinds.{StateOf, family_of}

-- The outcome on a board.
abbrev pub LoadsOn : BoardWord → List ℕ → Option (List ℕ) → Option Held → Outcome → Type 0
LoadsOn (BoardOf kind number) script input held o = LoadsBy (family_of kind) number (scripted None held script) input held o

-- The outcome of these bytes.
abbrev pub SeesOn : BoardWord → List ℕ → Option Held → List ℕ → Outcome → Type 0
SeesOn (BoardOf kind number) script held bytes o = LoadsWith (family_of kind) number (scripted None held script) held bytes o

-- The most bytes that the input gives.
abbrev pub GivesOn : BoardWord → List ℕ → Option Held → Intake → Intake → Type 0
GivesOn (BoardOf kind number) script held i i' = LoadGives (family_of kind) (scripted None held script) i i'

-- A script, and a stream of a board at the front of the input.
abbrev pub CanBeLoaded : BoardWord → List ℕ → Option (List ℕ) → Option Held → Type 0
CanBeLoaded (BoardOf kind number) script input held =
    IsSomeAnd held (λ map. CanBeRead None script map) × IsSomeAnd input (λ bytes. (board : StateOf kind) × (taken : ℕ)
    × Restores (family_of kind) number bytes (Back board taken))

-- The command `load BOARD SCRIPT`. Its words name an existing board.
abbrev pub load_entry : BoardWord → List ℕ → Entry
load_entry board script = record {
  task = record {
    has = λ input held o. LoadsOn board script input held o;
    sees = λ held bytes o. SeesOn board script held bytes o;
    gives = λ held i i'. GivesOn board script held i i';
    course = load_course;
  };
  words = IsBoard board;
  needs = λ input held. CanBeLoaded board script input held;
}
