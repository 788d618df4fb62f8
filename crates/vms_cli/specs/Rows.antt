-- What a command can return, also where the contents are unknown: a field for each sentence.
use Rattle.std.specs.Prelude.{◌≡◌, ◌⊎◌, ℕ, true, false, List, Option, None}
use Rattle.std.specs.Io.KnownBytes.{Appends, Keeps}
use Rattle.vms_io.specs.Causes.{Rose}
use Rattle.vms_io.specs.Shelves.{Held}
use Rattle.vms_io.specs.Told.{Intake}
use Rattle.vms_commands.specs.Courses.{is_among}
use Rattle.vms_commands.specs.Lines.{bad_words, out_of_memory, read_fault, shelf_fault, write_fault}
use Rattle.vms_commands.specs.Outcomes.{Does, DoesOrStops, Outcome, Outside}
use Rattle.vms_board_commands.specs.Seen.{Sees}
use Rattle.vms_cli.specs.Commands.{Asked, task_of}
use Rattle.vms_cli.specs.Statuses.{asks, reads, statuses_of, stores_at, takes_at, writes_at}

-- The cause of a status, and its line on standard error.
pub record HasCause (status : ℕ) (old new : Outside) : Type 0 where
  pub done : status ≡ 0 → new.notes ≡ old.notes
  pub words : status ≡ 2 → Appends old.notes.written new.notes.written bad_words
  pub input : status ≡ 5 → Rose old.input.faults new.input.faults × Appends old.notes.written new.notes.written read_fault
  pub sink : status ≡ 6 → (Rose old.out.faults new.out.faults × Appends old.notes.written new.notes.written write_fault) ⊎ Rose old.notes.faults new.notes.faults
  pub shelf : status ≡ 7 → Rose old.shelf.faults new.shelf.faults × Appends old.notes.written new.notes.written shelf_fault
  pub memory : status ≡ 10 → Appends old.notes.written new.notes.written out_of_memory

-- The outcome of these bytes, for the commands that read them, with what the shelf gave, or may have given if it is
-- unknown.
abbrev pub OutcomeWith : Option Asked → Option Held → List ℕ → Outcome → Type 0
OutcomeWith asked held bytes o = (task_of asked).sees held bytes o

-- An outcome follows from the bytes that were read, whether or not the input is known, and the call carries it out.
pub record DoesSeen (IsOutcome : List ℕ → Outcome → Type 0) (status : ℕ) (old new : Outside) : Type 0 where
  pub outcome : Outcome
  pub sees : Sees IsOutcome old.input new.input outcome
  pub does : Does status old new outcome

-- The same if the call may have stopped early.
pub record ComesSeen (IsOutcome : List ℕ → Outcome → Type 0) (status : ℕ) (old new : Outside) : Type 0 where
  pub outcome : Outcome
  pub sees : Sees IsOutcome old.input new.input outcome
  pub comes : DoesOrStops status old new outcome

-- The most bytes that the input gives.
abbrev pub Gives : Option Asked → Option Held → Intake → Intake → Type 0
Gives asked held input input' = (task_of asked).gives held input input'

-- What a command can return and touch.
pub record CanAnswer (asked : Option Asked) (status : ℕ) (old new : Outside) : Type 0 where
  pub can : is_among (statuses_of asked) status ≡ true
  pub cause : HasCause status old new
  -- standard output, the input and the shelf are unchanged except with these statuses
  pub out : is_among (writes_at asked) status ≡ false → Keeps old.out.written new.out.written
  pub input : is_among (takes_at asked) status ≡ false → new.input ≡ old.input
  pub held : is_among (stores_at asked) status ≡ false → new.shelf.held ≡ old.shelf.held
  -- and they are left alone if they aren't needed
  pub shelf : asks asked ≡ false → new.shelf ≡ old.shelf
  pub unnamed : asked ≡ None → new.out ≡ old.out
  -- the input gives no more than it may; and what succeeds, is refused or would lose something is so for all that
  -- was read
  pub given : Gives asked old.shelf.held old.input new.input
  pub seen : reads asked ≡ true → (status ≡ 0) ⊎ (status ≡ 1) ⊎ (status ≡ 11) → DoesSeen (OutcomeWith asked old.shelf.held) status old new
  -- if standard output failed, it has a prefix of the text of such an outcome
  pub stopped : reads asked ≡ true → status ≡ 6 → ComesSeen (OutcomeWith asked old.shelf.held) status old new ⊎ Rose old.notes.faults new.notes.faults
