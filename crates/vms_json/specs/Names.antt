-- How the names of fields are looked up. In a first walk no name is looked up, and each has the
-- number 0. In a second walk each name must be that of a field.
use Rattle.std.specs.Prelude.{ℕ, Bool, true, false, min, List, [], option_map, Option, Some, None}
use denote.Ref.{Bor}
use Rattle.serde_json.specs.Data.{Data}
use Rattle.vms_json.specs.declared.field_names.FieldNames.{FieldNames}
use Rattle.vms_json.specs.Index.{first_of, names_in, numbers}
use Rattle.vms_json.specs.declared.names.Scope.{Scope as Asked}
use Rattle.vms_json.specs.Answers.{Answer, good, bad, next}
use Rattle.vms_json.specs.Members.{text_of}

-- the numbers of names, or nothing in the first walk
abbrev pub Names : Type 0
Names = Option (List ℕ → Option ℕ)

-- the numbers of a description's names in the second walk, nothing in the first
abbrev pub names_if : Bool → Data → Names
names_if false d = None
names_if true d = Some (first_of (names_in d))

-- a number, at most 2 ^ 32 - 1: no set with that many fields is well formed
abbrev pub numbered : Option ℕ → Answer ℕ
numbered None = bad []
numbered (Some k) = good (min k 4294967295)

-- the number of a name
abbrev pub number_in : Names → List ℕ → Answer ℕ
number_in None name = good 0
number_in (Some first) name = numbered (first name)

-- the number of the name that a value is
abbrev pub name_in : Names → Data → Answer ℕ
name_in names d = next (text_of d) (number_in names)

-- the fields that a test may name: those of its own description, and in a needed test also the
-- device's
pub record Scope : Type 0 where
  pub own : Names
  pub parent : Option Names

-- the names of the code
abbrev pub names_seen : Option (Bor FieldNames) → Names
names_seen names = option_map (λ fields. numbers fields.now) names

-- the scope of a test of the code
abbrev pub scope_seen : Asked → Scope
scope_seen a = record { own = names_seen a.own; parent = option_map names_seen a.parent }
