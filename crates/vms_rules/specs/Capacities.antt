-- The least capacity of the arrays that a number counts decides for all of them.
use Rattle.std.specs.Prelude.{ℕ, Bool, true, Option, Some, None, ℤ, pos}
use Rattle.vms_spec.specs.Rules.{int_le}

-- the number is at most the least capacity, if there is one
abbrev pub fits : Option ℕ → ℤ → Bool
fits None z = true
fits (Some most) z = int_le z (pos most)
