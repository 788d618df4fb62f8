-- What can be said of an input that is read or refused, whether or not its contents are known.
use Rattle.std.specs.Prelude.{◌≡◌, ℕ, true, List, [], ◌∷◌, Option}
use Rattle.vms_io.specs.Reading.{Last, Reads}
use Rattle.vms_io.specs.Told.{Intake, Outlet, Stock}
use Rattle.vms_commands.specs.Courses.{is_among}
use Rattle.vms_commands.specs.Endings.{EndsAs, status_of}
use Rattle.vms_commands.specs.Outcomes.{Outcome}
use Rattle.vms_commands.specs.Steps.{Step, Untold, Gives, Ends}
use Rattle.vms_commands.specs.declared.ending.Ending.{Ending}

-- Bytes were read, and the outcome reads exactly them. It is the outcome of these bytes alone, and
-- of them followed by the rest of the input if that is known.
abbrev pub Sees : (List ℕ → Outcome → Type 0) → Intake → Intake → Outcome → Type 0
Sees IsOutcome old new o = Reads Last old new (λ n. n ≡ o.taken) (λ input left. IsOutcome input o)

-- An outcome is seen, and the command ends as it says.
pub record Seen (IsOutcome : List ℕ → Outcome → Type 0) (i i' : Intake) (o o' : Outlet) (s s' : Stock) (ending : Option Ending) : Type 0 where
  pub outcome : Outcome
  pub sees : Sees IsOutcome i i' outcome
  pub ends : EndsAs i i' o o' s s' ending outcome

-- An outcome is seen if the status is 0, 1, 6 or 11: success, refusal, write fault or loss.
abbrev pub SeenAs : (List ℕ → Outcome → Type 0) → (i i' : Intake) (o o' : Outlet) (s s' : Stock) → Option Ending → Type 0
SeenAs IsOutcome i i' o o' s s' ending =
    is_among (0 ∷ 1 ∷ 6 ∷ 11 ∷ []) (status_of ending) ≡ true → Seen IsOutcome i i' o o' s s' ending

-- ---- by the value of a step before, or any value if it is unknown

-- The step gave this value, or it is unknown.
abbrev pub IsGiven : {A : Type 0} → Step A → A → Type 0
IsGiven Untold a = Unit {0}
IsGiven (Gives b) a = a ≡ b
IsGiven (Ends status line) a = ⊥

-- The outcome of the bytes with the value of the step.
abbrev pub WithGiven : {A : Type 0} → Step A → (A → List ℕ → Outcome → Type 0) → List ℕ → Outcome → Type 0
WithGiven {A} step IsOutcome bytes o = (a : A) × IsGiven step a × IsOutcome a bytes o
