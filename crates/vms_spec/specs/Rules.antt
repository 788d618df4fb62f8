-- The rules of well-formed sets about tests, items and fields (docs/format.md, "Which sets are well
-- formed").
use Rattle.std.specs.Prelude.{ℕ, ◌+◌, Bool, true, false, ◌&&◌, nat_lt, nat_le, max, List, [], ◌∷◌, length, take, Option, Some, None, ℤ, pos, negsuc}
use Rattle.std.specs.List.{slice_get, list_all}
use Rattle.vms_kinds.specs.declared.Kind.{Kind}
use Rattle.vms_kinds.specs.declared.Kind.TheVariants.{U8, U16, U32}
use Rattle.vms_kinds.specs.declared.Item.{Item}
use Rattle.vms_kinds.specs.declared.Item.TheVariants.{Num, Equal, Unused, Struct}
use Rattle.vms_kinds.specs.Codes.{lowest, highest}
use Rattle.vms_spec.specs.declared.TheConstants.{MOST_UNUSED}
use Rattle.vms_spec.specs.declared.Count.{Count}
use Rattle.vms_spec.specs.declared.Count.TheVariants.{One, Fixed, Counted}
use Rattle.vms_spec.specs.declared.Whose.TheVariants.{Own, Parent}
use Rattle.vms_spec.specs.Numbers.{same_number}
use Rattle.vms_spec.specs.Sets.{Formula, AtLeast, Below, Cell, Not, And, Or, Field, Desc}
use Rattle.vms_spec.specs.Layout.{counted}
use Rattle.vms_spec.specs.Names.{is_name, all_names, are_new}

-- ---- tests

-- the number of nodes of a test
abbrev pub nodes : Formula → ℕ
nodes (AtLeast n) = 1
nodes (Below n) = 1
nodes (Cell whose field mask rel value) = 1
nodes (Not t) = 1 + nodes t
nodes (And s t) = 1 + (nodes s + nodes t)
nodes (Or s t) = 1 + (nodes s + nodes t)

-- the depth of a test; a test without parts has depth 1
abbrev pub depth : Formula → ℕ
depth (AtLeast n) = 1
depth (Below n) = 1
depth (Cell whose field mask rel value) = 1
depth (Not t) = 1 + depth t
depth (And s t) = 1 + max (depth s) (depth t)
depth (Or s t) = 1 + max (depth s) (depth t)

-- a test has at most 64 nodes and 16 levels
abbrev pub is_small_test : Formula → Bool
is_small_test t = nat_le (nodes t) 64 && nat_le (depth t) 16

-- the same of a field's test, if it has one
abbrev pub is_small_optional : Option Formula → Bool
is_small_optional None = true
is_small_optional (Some t) = is_small_test t

-- the item is a number
abbrev pub is_num : Item → Bool
is_num (Num kind) = true
is_num _ = false

-- the field is a single item
abbrev pub is_one : Count → Bool
is_one One = true
is_one _ = false

-- there is no test
abbrev pub has_no_test : Option Formula → Bool
has_no_test None = true
has_no_test (Some t) = false

-- a field that tests and counts may name: a single number without a test, present at every version
-- from the minimum on
abbrev pub is_steady : ℕ → Option Field → Bool
is_steady minimum None = false
is_steady minimum (Some f) = is_num f.item && is_one f.count && has_no_test f.test && nat_le f.since minimum

-- field j of the description is such a field
abbrev pub is_steady_in : Desc → ℕ → Bool
is_steady_in d i = is_steady d.minimum (slice_get d.fields i)

-- field j is such a field, and it is before field k
abbrev pub is_earlier_in : Desc → ℕ → ℕ → Bool
is_earlier_in d k i = nat_lt i k && is_steady_in d i

-- each field that the test names is among those that it may name; `own` and `parent` say which
-- these are
abbrev pub names_well : (own parent : ℕ → Bool) → Formula → Bool
names_well own parent (AtLeast n) = true
names_well own parent (Below n) = true
names_well own parent (Cell Own field mask rel value) = own field
names_well own parent (Cell Parent field mask rel value) = parent field
names_well own parent (Not t) = names_well own parent t
names_well own parent (And s t) = names_well own parent s && names_well own parent t
names_well own parent (Or s t) = names_well own parent s && names_well own parent t

-- no field: what a test may name of a parent if it isn't a needed test
abbrev pub nobody : ℕ → Bool
nobody i = false

-- the test of field i, if it has one, names only earlier fields of its description
abbrev pub test_names_well : Desc → ℕ → Option Formula → Bool
test_names_well d k None = true
test_names_well d k (Some t) = names_well (is_earlier_in d k) nobody t

-- ---- items and counts

-- the item is of a kind that a count may have: U8, U16 or U32
abbrev pub is_counting_item : Item → Bool
is_counting_item (Num U8) = true
is_counting_item (Num U16) = true
is_counting_item (Num U32) = true
is_counting_item _ = false

-- the field has such an item
abbrev pub is_counting : Option Field → Bool
is_counting None = false
is_counting (Some f) = is_counting_item f.item

-- the count of field i, if it is a field, names an earlier one of such a kind
abbrev pub count_names_well : Desc → ℕ → Count → Bool
count_names_well d k (Counted by most) = is_earlier_in d k by && is_counting (slice_get d.fields by)
count_names_well d k _ = true

-- a structure that the item uses has a number below k
abbrev pub uses_below : ℕ → Item → Bool
uses_below k (Struct j) = nat_lt j k
uses_below k _ = true

-- the order of integers, as a test
abbrev pub int_le : ℤ → ℤ → Bool
int_le (pos a) (pos b) = nat_le a b
int_le (pos a) (negsuc b) = false
int_le (negsuc a) (pos b) = true
int_le (negsuc a) (negsuc b) = nat_le b a

-- a number is in its kind's range
abbrev pub in_range : Kind → ℤ → Bool
in_range kind z = int_le (lowest kind) z && int_le z (highest kind)

-- a number's default, and a constant, is in range; every other item has the default 0
abbrev pub defaults_well : Item → ℤ → Bool
defaults_well (Num kind) z = in_range kind z
defaults_well (Equal kind y) z = in_range kind y && same_number z (pos 0)
defaults_well (Unused n) z = same_number z (pos 0)
defaults_well (Struct j) z = same_number z (pos 0)

-- the default is at most each capacity that the number counts
abbrev pub counts_well : List ℕ → ℤ → Bool
counts_well capacities z = list_all (λ most. int_le z (pos most)) capacities

-- an unused item has 1 to MOST_UNUSED bytes
abbrev pub is_small_item : Item → Bool
is_small_item (Unused n) = nat_le 1 n && nat_le n MOST_UNUSED
is_small_item _ = true

-- constants and unused bytes are single items, and lengths and capacities are at least 1
abbrev pub has_good_count : Item → Count → Bool
has_good_count (Equal kind z) count = is_one count
has_good_count (Unused n) count = is_one count
has_good_count item One = true
has_good_count item (Fixed n) = nat_le 1 n
has_good_count item (Counted by most) = nat_le 1 most

-- ---- the rules at a field and at a validation, in their order

-- the eight rules at field i of a description that may use the structures of numbers below k
abbrev pub field_rules : ℕ → Desc → ℕ → Field → List Bool
field_rules k d i f =
    (is_name 32 f.name && list_all (is_name 32) f.former)
    ∷ are_new (all_names (take i d.fields)) (f.name ∷ f.former)
    ∷ true
    ∷ (test_names_well d i f.test && count_names_well d i f.count)
    ∷ uses_below k f.item
    ∷ (defaults_well f.item f.default && counts_well (counted i d.fields) f.default)
    ∷ (nat_le (length f.former) 8 && is_small_optional f.test && is_small_item f.item)
    ∷ has_good_count f.item f.count
    ∷ []

-- the eight rules at a validation
abbrev pub validation_rules : Desc → Formula → List Bool
validation_rules d t = true ∷ true ∷ true ∷ names_well (is_steady_in d) nobody t ∷ true ∷ true ∷ is_small_test t ∷ true ∷ []
