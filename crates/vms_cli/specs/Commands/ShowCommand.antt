-- The command `show`: its outcome, and what it sees of its input.
use Rattle.std.specs.Prelude.{◌≡◌, ◌⊎◌, ℕ, ◌+◌, ◌≤◌, Bool, List, Option, IsSomeAnd}
use Rattle.vms_io.specs.Shelves.{Held}
use Rattle.vms_io.specs.Told.{Intake, Outlet}
use Rattle.vms_spec.specs.declared.Reason.{Reason}
use Rattle.vms_spec.specs.Images.{Image}
use Rattle.vms_spec.specs.Sets.{Set}
use Rattle.vms_spec.specs.Values.{values_text}
use Rattle.vms_spec.specs.WellFormed.{WellFormed}
use Rattle.vms_stream.specs.Faults.{Fault}
use Rattle.vms_stream.specs.Streams.{Takes}
use Rattle.vms_load.specs.Staging.{most_given}
use Rattle.vms_commands.specs.Courses.{Course}
use Rattle.vms_commands.specs.Fetching.{is_on_shelf, word_set}
use Rattle.vms_commands.specs.Lines.{refused_line}
use Rattle.vms_commands.specs.Outcomes.{Outcome, done, ended}
use Rattle.vms_commands.specs.SetWords.{SetWord}
use Rattle.vms_commands.specs.Steps.{Step, Untold, Gives, Ends}
use Rattle.vms_commands.specs.declared.ending.Ending.{Ending}
use Rattle.vms_board_commands.specs.Causes.{stream_course}
use Rattle.vms_board_commands.specs.Runs.{ReadsBy, RunsBehind, read_task}
use Rattle.vms_cli.specs.Entry.{Entry, plain_entry}

-- The values text of the stream at the front of the input; or where and why the input is refused, up to the end of
-- the offending unit. The shelf holds the same as before.
pub data Shows (set : Set) (input : List ℕ) (held : Option Held) : Outcome → Type 0 where
  Values : (taken : ℕ) (machine : Option (List ℕ)) (images : List Image) → Takes set set.machines input taken machine images
      → Shows set input held (done (values_text set machine images) held taken)
  Refuses : (place : ℕ) (section : Option ℕ) (reason : Reason) (size : ℕ) → Fault set set.machines input place section reason size
      → Shows set input held (ended 1 (refused_line set place section reason) (place + size))

-- The outcome under the set that a step gives, or the end of that step, before any input is read.
abbrev pub ShowsBy : Step Set → Option (List ℕ) → Option Held → Outcome → Type 0
ShowsBy step input held o = ReadsBy Shows step input held o

-- The most bytes that the input gives: those of a stream of the set; those of a stream of some well-formed set, or
-- none, if the set is unknown; and none if there is no set.
abbrev pub GivesWithin : Step Set → Intake → Intake → Type 0
GivesWithin Untold input input' =
    (input' ≡ input) ⊎ ((set : Set) × WellFormed set × (input'.given ≤ input.given + most_given set))
GivesWithin (Gives set) input input' = input'.given ≤ input.given + most_given set
GivesWithin (Ends status line) input input' = input' ≡ input

-- The outcome under a set that is well formed.
abbrev pub ShowsWell : Option Held → Set → List ℕ → Outcome → Type 0
ShowsWell held set bytes o = WellFormed set × Shows set bytes held o

-- What the command guarantees once the set is known.
pub record ShowsStream (set : Set) (i i' : Intake) (o o' : Outlet) (e : Option Ending) : Type 0 where
  pub runs : RunsBehind (λ left held x. IsSomeAnd left (λ bytes. Shows set bytes held x)) (λ held. ShowsWell held set) stream_course i i' o o' e
  pub given : i'.given ≤ i.given + most_given set

-- The course of `show`. `asks` is whether the shelf is used.
abbrev pub show_course : (asks : Bool) → Course
show_course asks = stream_course asks

-- A word names a set, and a stream of it is at the front of the input.
abbrev pub CanBeShown : SetWord → Option (List ℕ) → Option Held → Type 0
CanBeShown word input held =
    (set : Set) × (word_set held word ≡ Gives set) × IsSomeAnd input (λ bytes. (taken : ℕ) × (machine : Option (List ℕ))
    × (images : List Image) × Takes set set.machines bytes taken machine images)

-- The command `show SET`.
abbrev pub show_entry : SetWord → Entry
show_entry word =
    plain_entry (read_task (λ held. word_set held word) Shows ShowsWell GivesWithin (show_course (is_on_shelf word))) (CanBeShown word)
