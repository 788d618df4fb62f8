-- A run of a command: how its ending relates the input, the outputs and the shelf, known or
-- unknown.
use Rattle.std.specs.Prelude.{◌≡◌, ℕ, ◌<◌, ◌^◌, Bool, true, List, Option, IsSomeAnd}
use Rattle.vms_io.specs.Shelves.{Held}
use Rattle.vms_io.specs.Told.{Intake, Outlet, Stock, intake, outlet, stock}
use Rattle.vms_io.specs.declared.source.Source as source
use Rattle.vms_io.specs.declared.sink.Sink as sink
use Rattle.vms_io.specs.declared.shelf.Shelf as shelf
use Rattle.vms_commands.specs.declared.ending.Ending.{Ending}
use Rattle.vms_commands.specs.Courses.{Course, EndsSo, is_among}
use Rattle.vms_commands.specs.Endings.{EndsAs}
use Rattle.vms_commands.specs.Outcomes.{Outcome}
use Rattle.vms_commands.specs.Steps.{HasBy, HasText, Step}
use Rattle.vms_board_commands.specs.Seen.{SeenAs, WithGiven}

-- What contracts know of the objects of a command at one moment.
pub record Frame : Type 0 where
  pub input : Intake
  pub out : Outlet
  pub shelf : Stock

-- These three as one.
abbrev pub moment : Intake → Outlet → Stock → Frame
moment input out shelf = record { input = input; out = out; shelf = shelf }

-- The same of objects that are sources, sinks and shelves.
abbrev pub frame : {I O H : Type 0} → source.Ghosts I → sink.Ghosts O → shelf.Ghosts H → I → O → H → Frame
frame i o h input out shelf = moment (intake i input) (outlet o out) (stock h shelf)

-- What a command has to do. `has` is its outcome, by the rest of the input and the files held;
-- `sees` is the outcome of the bytes that it read; `gives` bounds the number of bytes read;
-- `course` is the list of statuses with which it may end.
pub record Task : Type 1 where
  pub has : Option (List ℕ) → Option Held → Outcome → Type 0
  pub sees : Option Held → List ℕ → Outcome → Type 0
  pub gives : Option Held → Intake → Intake → Type 0
  pub course : Course

-- The task of a command that doesn't read the input.
abbrev pub unread_task : (Option Held → Outcome → Type 0) → Course → Task
unread_task has course = record { has = λ left held o. has held o; sees = λ held bytes o. ⊥; gives = λ held i i'. Unit {0}; course = course }

-- The outcome of a command that reads the input: by the value that `step` gives, if the input is known; or the end of
-- that step, before the input is read.
abbrev pub ReadsBy : {A : Type 0} → (A → List ℕ → Option Held → Outcome → Type 0) → Step A → Option (List ℕ) → Option Held → Outcome → Type 0
ReadsBy Has step left held o = HasBy (λ a x. IsSomeAnd left (λ bytes. Has a bytes held x)) step o

-- The task of a command that reads the input once `step` has given a value. By that value `Has` is the outcome of the
-- input, and `Sees` that of the bytes that were read. `gives` bounds their number, by the step.
abbrev pub read_task : {A : Type 0} → (Option Held → Step A) → (A → List ℕ → Option Held → Outcome → Type 0)
    → (Option Held → A → List ℕ → Outcome → Type 0) → (Step A → Intake → Intake → Type 0) → Course → Task
read_task step Has Sees gives course = record {
  has = λ left held o. ReadsBy Has (step held) left held o;
  sees = λ held bytes o. WithGiven (step held) (Sees held) bytes o;
  gives = λ held i i'. gives (step held) i i';
  course = course;
}

-- The task of a command that writes the text of `step` and doesn't read the input.
abbrev pub text_task : (Option Held → Step (List ℕ)) → Course → Task
text_task step course = unread_task (λ held o. HasText held (step held) o) course

-- A run of the task `t` with the ending `e`. If what it depends on is known, `content` says what it
-- leaves. `so` relates each status of its course to its cause and to what it may touch. `given`
-- bounds the number of bytes read, and `seen` says what those bytes mean.
pub record Runs (t : Task) (old new : Frame) (e : Option Ending) : Type 0 where
  pub content : (o : Outcome) → t.has old.input.left old.shelf.held o → EndsAs old.input new.input old.out new.out old.shelf new.shelf e o
  pub so : EndsSo old.input new.input old.out new.out old.shelf new.shelf t.course e
  pub given : t.gives old.shelf.held old.input new.input
  pub seen : is_among t.course.takes 0 ≡ true → SeenAs (t.sees old.shelf.held) old.input new.input old.out new.out old.shelf new.shelf e

-- The run of a command that has no access to the input. It holds for any input.
abbrev pub RunsAside : Task → (out out' : Outlet) (shelf shelf' : Stock) → Option Ending → Type 0
RunsAside t out out' shelf shelf' e =
    (input : Intake) → input.given < 2 ^ 64 → Runs t (moment input out shelf) (moment input out' shelf') e

-- The rest of a run that reads the input, after all else was fetched. It is the same for any shelf.
pub record RunsBehind (HasIt : Option (List ℕ) → Option Held → Outcome → Type 0) (SeesIt : Option Held → List ℕ → Outcome → Type 0) (course : Bool → Course) (i i' : Intake) (o o' : Outlet) (e : Option Ending) : Type 0 where
  pub content : (shelf shelf' : Stock) (x : Outcome) → shelf'.held ≡ shelf.held → HasIt i.left shelf.held x → EndsAs i i' o o' shelf shelf' e x
  pub so : (shelf : Stock) (asks : Bool) → EndsSo i i' o o' shelf shelf (course asks) e
  pub seen : (shelf shelf' : Stock) → shelf'.held ≡ shelf.held → SeenAs (SeesIt shelf.held) i i' o o' shelf shelf' e
