-- The meaning of a list of a device's fields.
use Rattle.std.specs.Prelude.{ℕ, zero, suc, ℤ, ◌+◌, ◌==◌, ◌&&◌, Bool, true, nat_le, if◌then◌else◌, List, [], ◌∷◌, replicate}
use Rattle.std.specs.List.{flat_map}
use Rattle.std.specs.Option.{option_map}
use Rattle.std.specs.Str.{bytes_eq}
use Rattle.vms_kinds.specs.declared.Kind.{Kind}
use Rattle.vms_kinds.specs.declared.Item.TheVariants.{Num}
use Rattle.vms_spec.specs.Layout.{capacity_of}
use Rattle.vms_spec.specs.Sets.{Field, Formula, Cell}
use Rattle.vms_spec.specs.declared.Rel.TheVariants.{Eq}
use Rattle.vms_spec.specs.declared.Whose.TheVariants.{Own}
use Rattle.vms_fields.specs.declared.Shape.{Shape}

-- A row: a field's name and its former names as bytes, and its shape.
pub record Row : Type 0 where
  pub name : List ℕ
  pub former : List (List ℕ)
  pub shape : Shape

-- The number of cells of a row.
abbrev pub size_of : Row → ℕ
size_of row = capacity_of row.shape.count

-- ---- descriptions

-- The first of a list of names.
abbrev pub first_name : List (List ℕ) → List ℕ
first_name [] = []
first_name (name ∷ names) = name

-- The name and the former names of a field at `version`, if `named` is the first version at which it has `name`.
abbrev pub name_at : ℕ → ℕ → List ℕ → List (List ℕ) → List ℕ
name_at version named name former = if nat_le named version then name else first_name former

abbrev pub former_at : ℕ → ℕ → List (List ℕ) → List (List ℕ)
former_at version named former = if nat_le named version then former else []

-- The test whether the flag that is field `flag` of the same description is set.
abbrev pub is_set : ℕ → Formula
is_set flag = Cell Own flag 1 Eq 1

-- The field that a row describes at `version`.
abbrev pub field_of_row : ℕ → Row → Field
field_of_row version row = record {
  name = name_at version row.shape.named row.name row.former;
  former = former_at version row.shape.named row.former;
  item = Num row.shape.kind;
  count = row.shape.count;
  since = row.shape.since;
  test = option_map is_set row.shape.held_by;
  default = row.shape.default;
}

-- The field of a row, if version `version` of the device has it in part `part`: 0 is the section,
-- and 1 on are the subsections.
abbrev pub listed_at : ℕ → ℕ → Row → List Field
listed_at version part row = if nat_le row.shape.since version && (row.shape.part == part) then field_of_row version row ∷ [] else []

-- The fields that version `version` of the device has in part `part`.
abbrev pub fields_at : ℕ → ℕ → List Row → List Field
fields_at version part rows = flat_map (listed_at version part) rows

-- ---- cells

-- Whether set `set` has what exists from set `first` on.
abbrev pub is_in : ℕ → ℕ → Bool
is_in zero set = true
is_in (suc first) set = nat_le (suc first) set

-- The kinds of the cells under set `set`.
abbrev pub kinds_under : List Row → ℕ → List Kind
kinds_under rows set = flat_map (λ (row : Row). if is_in row.shape.first_set set then replicate (size_of row) row.shape.kind else []) rows

-- The numbers of fields, by their names.
abbrev pub Named : Type 0
Named = List (List ℕ × List ℤ)

-- The numbers of the field `name`.
abbrev pub numbers_of : Named → List ℕ → List ℤ
numbers_of [] name = []
numbers_of (one ∷ named) name = if bytes_eq one.0 name then one.1 else numbers_of named name

-- The cells under set `set`, each row's taken by its name.
abbrev pub cells_under : List Row → ℕ → Named → List ℤ
cells_under rows set named = flat_map (λ (row : Row). if is_in row.shape.first_set set then numbers_of named row.name else []) rows

-- The index of the first cell of the field `name` in the newest set, if the first of the rows has
-- its cells at index `at`.
abbrev pub place_from : ℕ → List Row → List ℕ → ℕ
place_from at [] name = at
place_from at (row ∷ rows) name = if bytes_eq row.name name then at else place_from (at + size_of row) rows name

-- The index of the first cell of the field `name` in the newest set.
abbrev pub place_of : List Row → List ℕ → ℕ
place_of rows name = place_from 0 rows name

-- The same under set `set`, where `at` is the index of the first of the rows.
abbrev pub place_under_from : ℕ → List Row → ℕ → List ℕ → ℕ
place_under_from at [] set name = at
place_under_from at (row ∷ rows) set name =
    if bytes_eq row.name name then at else place_under_from (if is_in row.shape.first_set set then at + size_of row else at) rows set name

-- The index of the first cell of the field `name` under set `set`.
abbrev pub place_under : List Row → ℕ → List ℕ → ℕ
place_under rows set name = place_under_from 0 rows set name
