-- Comparisons of numbers for the reasons to refuse a stream.
use Rattle.std.specs.Prelude.{ℕ, Bool, true, false, ◌==◌, nat_lt, List, ◌∷◌, ℤ, pos, negsuc, ◌||◌, []}
use Rattle.vms_kinds.specs.declared.Kind.{Kind}
use Rattle.vms_kinds.specs.declared.Kind.TheVariants.{Bool as Truth}

-- the kind is a bool
abbrev pub is_truth : Kind → Bool
is_truth Truth = true
is_truth kind = false

-- two numbers are equal
abbrev pub same_number : ℤ → ℤ → Bool
same_number (pos a) (pos b) = a == b
same_number (negsuc a) (negsuc b) = a == b
same_number _ _ = false

-- a number is greater than a maximum
abbrev pub is_above : ℤ → ℕ → Bool
is_above (pos n) most = nat_lt most n
is_above (negsuc n) most = false

-- a number is greater than one of the capacities
abbrev pub exceeds : List ℕ → ℤ → Bool
exceeds [] z = false
exceeds (most ∷ capacities) z = is_above z most || exceeds capacities z
