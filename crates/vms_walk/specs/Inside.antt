-- The cells of steps.
use Rattle.std.specs.Prelude.{◌≡◌, ℕ, ◌<◌, Bool, false, ◌==◌, List, length, get_or, ℤ, pos}
use Rattle.std.specs.List.{list_any}
use Rattle.vms_walk.specs.declared.step.WalkStep.{WalkStep}
use Rattle.vms_walk.specs.declared.step.WalkStep.TheVariants.{Number}

-- The cell of a number is among `numbers`.
abbrev pub IsInside : List ℤ → WalkStep → Type 0
IsInside numbers (Number cell kind most) = cell < length numbers
IsInside numbers step = Unit {0}

-- Whether a step is for cell `c`.
abbrev pub is_for : ℕ → WalkStep → Bool
is_for c (Number cell kind most) = cell == c
is_for c step = false

-- Whether one of the steps is.
abbrev pub has_step : List WalkStep → ℕ → Bool
has_step xs c = list_any (is_for c) xs

-- The numbers of all other cells stay.
pub record Keeps (xs : List WalkStep) (old new : List ℤ) : Type 0 where
  pub long : length new ≡ length old
  pub same : (c : ℕ) → has_step xs c ≡ false → get_or new c (pos 0) ≡ get_or old c (pos 0)
