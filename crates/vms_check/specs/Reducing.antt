-- Tests at a known version: the rest of them, and which fields are present.
use Rattle.std.specs.Prelude.{ℕ, Bool, true, false, not, nat_le, nat_lt, if◌then◌else◌, Option, Some, None}
use Rattle.vms_spec.specs.Sets.{Formula, AtLeast, Below, Cell, Not, And, Or}
use Rattle.vms_spec.specs.Tests.{truth}

-- A test whose comparisons with the version are folded away: a truth value, or a test without any.
pub data Reduced : Type 0 where
  Known : Bool → Reduced
  Open : Formula → Reduced

-- The negation of a reduced test.
abbrev pub not_reduced : Reduced → Reduced
not_reduced (Known b) = Known (not b)
not_reduced (Open t) = Open (Not t)

-- The conjunction of reduced tests.
abbrev pub and_reduced : Reduced → Reduced → Reduced
and_reduced (Known true) r = r
and_reduced (Known false) r = Known false
and_reduced (Open s) (Known true) = Open s
and_reduced (Open s) (Known false) = Known false
and_reduced (Open s) (Open t) = Open (And s t)

-- The disjunction of reduced tests.
abbrev pub or_reduced : Reduced → Reduced → Reduced
or_reduced (Known false) r = r
or_reduced (Known true) r = Known true
or_reduced (Open s) (Known false) = Open s
or_reduced (Open s) (Known true) = Known true
or_reduced (Open s) (Open t) = Open (Or s t)

-- `reduced v test` is `test` at the known version `v`.
abbrev pub reduced : ℕ → Formula → Reduced
reduced v (AtLeast n) = Known (nat_le n v)
reduced v (Below n) = Known (nat_lt v n)
reduced v (Cell whose field mask rel value) = Open (Cell whose field mask rel value)
reduced v (Not t) = not_reduced (reduced v t)
reduced v (And s t) = and_reduced (reduced v s) (reduced v t)
reduced v (Or s t) = or_reduced (reduced v s) (reduced v t)

-- The rest of the test of a present field: none if the test has become true.
abbrev pub left_of : Reduced → Option (Option Formula)
left_of (Known false) = None
left_of (Known true) = Some None
left_of (Open t) = Some (Some t)

-- Whether a field with this test and this `since` is present, and the rest of its test.
abbrev pub presence : ℕ → Option Formula → ℕ → Option (Option Formula)
presence v None since = if nat_le since v then Some None else None
presence v (Some t) since = left_of (reduced v t)

-- Whether a reduced test is true at that version.
abbrev pub truth_of : Reduced → ℕ → (ℕ → ℕ) → (ℕ → ℕ) → Bool
truth_of (Known b) v own parent = b
truth_of (Open t) v own parent = truth t v own parent
