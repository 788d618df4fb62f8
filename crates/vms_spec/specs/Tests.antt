-- When a test holds, and when a field is present (docs/format.md, "What a section has").
use Rattle.std.specs.Prelude.{ℕ, Bool, not, ◌&&◌, ◌||◌, ◌==◌, nat_lt, nat_le, bit_and, Option, Some, None}
use Rattle.vms_spec.specs.declared.Rel.{Rel}
use Rattle.vms_spec.specs.declared.Rel.TheVariants.{Eq, Ne, Lt, Ge}
use Rattle.vms_spec.specs.declared.Whose.TheVariants.{Own, Parent}
use Rattle.vms_spec.specs.Sets.{Formula, AtLeast, Below, Cell, Not, And, Or}

-- `compares rel x y`: number x is in this relation to value y
abbrev pub compares : Rel → ℕ → ℕ → Bool
compares Eq a b = a == b
compares Ne a b = not (a == b)
compares Lt a b = nat_lt a b
compares Ge a b = nat_le b a

-- `truth test v own parent`: the test holds at version v. `own` and `parent` give the number of
-- each field of the description and of its device, modulo 2 ^ (8 w) for a field of w bytes.
abbrev pub truth : Formula → ℕ → (ℕ → ℕ) → (ℕ → ℕ) → Bool
truth (AtLeast n) v own parent = nat_le n v
truth (Below n) v own parent = nat_lt v n
truth (Cell Own field mask rel value) v own parent = compares rel (bit_and (own field) mask) value
truth (Cell Parent field mask rel value) v own parent = compares rel (bit_and (parent field) mask) value
truth (Not t) v own parent = not (truth t v own parent)
truth (And s t) v own parent = truth s v own parent && truth t v own parent
truth (Or s t) v own parent = truth s v own parent || truth t v own parent

-- a field with a test is present if the test holds, whatever its `since`; one without a test from
-- version `since` on
abbrev pub is_there : Option Formula → ℕ → ℕ → (ℕ → ℕ) → (ℕ → ℕ) → Bool
is_there None since v own parent = nat_le since v
is_there (Some t) since v own parent = truth t v own parent
