-- What `show` prints for streams that an older set wrote.
use Rattle.std.specs.Prelude.{◌≡◌, ℕ, ◌≤◌, true, List, length, Option, Some, IfSome}
use Rattle.vms_spec.specs.Images.{Image}
use Rattle.vms_spec.specs.Sets.{Set}
use Rattle.vms_spec.specs.Streams.{AreReady, is_one_of, longest_text, written}
use Rattle.vms_spec.specs.Values.{values_text}
use Rattle.vms_spec.specs.WellFormed.{WellFormed}
use Rattle.vms_check.specs.Comparing.{Compatible}
use Rattle.vms_check.specs.Carrying.{carried}
use Rattle.vms_commands.specs.Fetching.{word_set}
use Rattle.vms_commands.specs.Outcomes.{Outcome, Outside, DoesOrStops, done}
use Rattle.vms_commands.specs.Steps.{Step, Untold, Gives, Ends}
use Rattle.vms_cli.specs.Commands.{Asked, Show}

-- What an older set writes: ready images of it, with a machine of its own or none, and any description that a
-- stream may have, or none.
pub record IsWritten (older : Set) (machine text : Option (List ℕ)) (images : List Image) : Type 0 where
  pub ready : AreReady older images
  pub named : IfSome machine (λ m. is_one_of older.machines m ≡ true)
  pub short : IfSome text (λ t. length t ≤ longest_text)

-- The outcome of `show` with the newer set: the values text of the images as they are carried, and all of the
-- stream is read.
abbrev pub shown_newer : (older newer : Set) → (machine text : Option (List ℕ)) → List Image → Outside → Outcome
shown_newer older newer machine text images old =
    done (values_text newer machine (carried older newer images)) old.shelf.held
    (length (written older machine images text))

-- The upgrade clause, if the set of `show` is known: for each older set that it is compatible with, an input that
-- is a stream of that set is shown as carried.
abbrev pub UpgradesTo : Step Set → ℕ → Outside → Outside → Type 0
UpgradesTo Untold status old new = Unit {0}
UpgradesTo (Ends own line) status old new = Unit {0}
UpgradesTo (Gives newer) status old new =
    (older : Set) (machine text : Option (List ℕ)) (images : List Image) → WellFormed older → Compatible older newer
    → IsWritten older machine text images → old.input.left ≡ Some (written older machine images text)
    → DoesOrStops status old new (shown_newer older newer machine text images old)

-- The upgrade clause of a command: it is about `show`.
abbrev pub Upgrade : Option Asked → ℕ → Outside → Outside → Type 0
Upgrade (Some (Show word)) status old new = UpgradesTo (word_set old.shelf.held word) status old new
Upgrade asked status old new = Unit {0}
