-- The numbers of fields, given the first cell of each field.
use Rattle.std.specs.Prelude.{ℕ, ◌+◌, min, List, length, get_or, map, Option, Some, None, ℤ, pos}
use Rattle.vms_kinds.specs.Codes.{width, residue}
use Rattle.vms_spec.specs.Sets.{Field, Set}
use Rattle.vms_spec.specs.Layout.{no_field, kind_of, no_parent, struct_cells}
use Rattle.vms_parts.specs.Sizes.{in_u32}
use Rattle.vms_desc.specs.declared.eval.Scope.{Scope}
use Rattle.vms_parts.specs.Views.{field_of}

-- the number of cells of each structure of a set
abbrev pub sizes_of : Set → List ℕ
sizes_of set = map (λ cells. in_u32 (length cells)) (struct_cells set)

-- the first cell of field k of a description whose cells begin at a place, given the first cell of
-- each field
abbrev pub place_in : List ℕ → List Field → ℕ → ℕ → ℕ
place_in starts fields at k = at + get_or starts (min k (length fields)) 0

-- the number of field k, modulo 2 ^ (8 w)
abbrev pub number_in : List ℕ → List Field → List ℤ → ℕ → ℕ → ℕ
number_in starts fields numbers at k = residue (width (kind_of (get_or fields k no_field).item)) (get_or numbers (place_in starts fields at k) (pos 0))

-- the fields of a scope
abbrev pub fields_in : Scope → List Field
fields_in s = map field_of s.fields.now

-- the number of a field of a scope, modulo 2 ^ (8 w)
abbrev pub number_of : List ℤ → Scope → ℕ → ℕ
number_of numbers s = number_in s.starts.now (fields_in s) numbers s.base

-- the same of the parent's scope, or 0 if there is none
abbrev pub number_of_parent : List ℤ → Option Scope → ℕ → ℕ
number_of_parent numbers None = no_parent
number_of_parent numbers (Some s) = number_of numbers s
