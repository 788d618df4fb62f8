-- The fields that a test may name.
use Rattle.std.specs.Prelude.{ℕ, Bool, ◌&&◌, map, Option, Some, None}
use Rattle.std.specs.List.{slice_get}
use Rattle.vms_spec.specs.Sets.{Field}
use Rattle.vms_spec.specs.Rules.{is_num, is_one, has_no_test, is_steady, nobody}
use Rattle.vms_parts.specs.Views.{field_of}
use Rattle.vms_rules.specs.declared.formulas.Scope.{Scope}

-- a single number without a test
abbrev pub is_single : Field → Bool
is_single f = is_num f.item && is_one f.count && has_no_test f.test

-- a single number that is present at every version from the minimum on
abbrev pub may_name : Scope → ℕ → Bool
may_name s i = is_steady s.minimum (slice_get (map field_of s.fields.now) i)

-- the same of a scope, if there is one
abbrev pub may_name_in : Option Scope → ℕ → Bool
may_name_in None = nobody
may_name_in (Some s) = may_name s
