-- How a command may end and what it touches then, whether or not the contents are known: a field for each sentence.
use Rattle.std.specs.Prelude.{◌≡◌, ℕ, ◌≤◌, Bool, true, false, ◌==◌, List, [], ◌∷◌, ◌++◌, Option, Some}
use Rattle.std.specs.List.{list_any}
use Rattle.std.specs.Io.KnownBytes.{Keeps}
use Rattle.vms_io.specs.Causes.{Rose}
use Rattle.vms_io.specs.Shelving.{Reaches}
use Rattle.vms_io.specs.Told.{Intake, Outlet, Stock}
use Rattle.vms_io.specs.Writing.{Serves}
use Rattle.vms_commands.specs.declared.ending.Ending.{Ending}
use Rattle.vms_commands.specs.declared.ending.Ending.TheVariants.{ReadFault, WriteFault, ShelfFault}
use Rattle.vms_commands.specs.Endings.{status_of}
use Rattle.vms_commands.specs.Outcomes.{Outside}

-- `is_among statuses status` is whether `status` is in the list.
abbrev pub is_among : List ℕ → ℕ → Bool
is_among statuses status = list_any (λ n. n == status) statuses

-- What a command may do: the statuses that it can end with; the statuses with which standard output may have been
-- written, input may have been read, and the shelf may have changed; and whether it uses the shelf.
pub record Course : Type 0 where
  pub statuses : List ℕ
  pub writes : List ℕ
  pub takes : List ℕ
  pub stores : List ℕ
  pub asks : Bool

-- The statuses about names on the shelf and its failures, if the command uses the shelf.
abbrev pub of_shelf : Bool → List ℕ
of_shelf true = 3 ∷ 7 ∷ 8 ∷ 9 ∷ []
of_shelf false = []

-- The course of a command that writes its text once it is known and stores nothing.
abbrev pub text_course : (own takes : List ℕ) → Bool → Course
text_course own takes asks = record { statuses = own ++ of_shelf asks; writes = 0 ∷ 6 ∷ []; takes = takes; stores = []; asks = asks }

-- The input loses no recorded failure, and its promise stays.
pub record Draws (old new : Intake) : Type 0 where
  pub later : old.faults ≤ new.faults
  pub promise : new.promise ≡ old.promise

-- No object of the outside loses a recorded failure, and each keeps its promise.
pub record Stands (old new : Outside) : Type 0 where
  pub input : Draws old.input new.input
  pub out : Serves old.out new.out
  pub notes : Serves old.notes new.notes
  pub shelf : Reaches old.shelf new.shelf

module _ (i i' : Intake) (o o' : Outlet) (s s' : Stock) where
  -- A failure comes only if the object has counted one.
  abbrev pub Risen : Option Ending → Type 0
  Risen (Some ReadFault) = Rose i.faults i'.faults
  Risen (Some WriteFault) = Rose o.faults o'.faults
  Risen (Some ShelfFault) = Rose s.faults s'.faults
  Risen ending = Unit {0}

  -- A command with this course ended so, and touched no more than the course allows.
  pub record EndsSo (course : Course) (e : Option Ending) : Type 0 where
    pub can : is_among course.statuses (status_of e) ≡ true
    pub risen : Risen e
    pub out : is_among course.writes (status_of e) ≡ false → Keeps o.written o'.written
    pub input : is_among course.takes (status_of e) ≡ false → i' ≡ i
    pub held : is_among course.stores (status_of e) ≡ false → s'.held ≡ s.held
    pub shelf : course.asks ≡ false → s' ≡ s
    pub draws : Draws i i'
    pub serves : Serves o o'
    pub reaches : Reaches s s'
