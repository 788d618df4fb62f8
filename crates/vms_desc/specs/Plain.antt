-- Tests of the version or of one number.
use Rattle.std.specs.Prelude.{Bool, true, false}
use Rattle.vms_spec.specs.Sets.{Formula, AtLeast, Below, Cell, Not, And, Or}

-- the test is such a test
abbrev pub is_plain : Formula → Bool
is_plain (AtLeast n) = true
is_plain (Below n) = true
is_plain (Cell whose field mask rel value) = true
is_plain (Not t) = false
is_plain (And s t) = false
is_plain (Or s t) = false
