-- The description file of a set (docs/sets.md). Keys at their defaults are left out. The keys of an
-- object are in byte order, in whichever order they are put.
use Rattle.std.specs.Prelude.{ℕ, Bool, true, false, ◌==◌, if◌then◌else◌, List, [], ◌∷◌, map, get_or, Option, Some, None, ℤ, pos, negsuc, int_le, int_lt, ◌&&◌, codes}
use Rattle.serde_json.specs.Data.{Data, number, unsigned, string, array, object, no_items, item, Members, no_members, put, null}
use Rattle.serde_json.specs.Find.{of_integer}
use Rattle.serde_json.specs.View.{items_of}
use Rattle.vms_kinds.specs.declared.Item.{Item}
use Rattle.vms_kinds.specs.declared.Item.TheVariants as items
use Rattle.vms_spec.specs.declared.Rel.{Rel}
use Rattle.vms_spec.specs.declared.Rel.TheVariants as rels
use Rattle.vms_spec.specs.declared.Whose.TheVariants.{Own, Parent}
use Rattle.vms_spec.specs.declared.Count.{Count}
use Rattle.vms_spec.specs.declared.Count.TheVariants.{Fixed, Counted}
use Rattle.vms_spec.specs.Sets.{Formula, AtLeast, Below, Cell, Not, And, Or, Field, Desc, Sub, Device, Set}
use Rattle.vms_words.specs.Words.{kind_word}

-- a list of these items
abbrev pub list_file : {A : Type 0} → (A → Data) → List A → Data
list_file f list = array (items_of (map f list))

-- a number from 0 on
abbrev pub natural_file : ℕ → Data
natural_file n = number (unsigned n)

-- ---- members that are left out at their defaults

-- a member, if it is given
abbrev pub given_as : {A : Type 0} → List ℕ → (A → Data) → Option A → Members → Members
given_as key f None ms = ms
given_as key f (Some a) ms = put key (f a) ms

-- a member, unless it is left out
abbrev pub unless : Bool → List ℕ → Data → Members → Members
unless true key d ms = ms
unless false key d ms = put key d ms

-- a list, unless it is empty
abbrev pub list_as : {A : Type 0} → List ℕ → (A → Data) → List A → Members → Members
list_as key f [] ms = ms
list_as key f (a ∷ list) ms = put key (list_file f (a ∷ list)) ms

-- the number is 0
abbrev pub is_zero : ℤ → Bool
is_zero (pos n) = n == 0
is_zero _ = false

-- the names of a description's fields
abbrev pub own_names : List Field → List (List ℕ)
own_names fields = map (λ f. f.name) fields

-- ---- tests, given the names of the fields of the description and of its device

-- the word of a relation
abbrev pub rel_file : Rel → Data
rel_file rels.Eq = string (codes "eq")
rel_file rels.Ne = string (codes "ne")
rel_file rels.Lt = string (codes "lt")
rel_file rels.Ge = string (codes "ge")

-- a list of two
abbrev pub pair_file : Data → Data → Data
pair_file first second = array (item first (item second no_items))

-- an object with one member
abbrev pub only : List ℕ → Data → Data
only key d = object (put key d no_members)

-- the members of a test of a number, without the field's name
abbrev pub compared_file : ℕ → Rel → ℕ → Members
compared_file mask rel value =
    put (codes "value") (natural_file value) (put (codes "mask") (natural_file mask) (put (codes "is") (rel_file rel) no_members))

-- the file of a test
abbrev pub test_file : List (List ℕ) → List (List ℕ) → Formula → Data
test_file own parent (AtLeast n) = only (codes "at_least") (natural_file n)
test_file own parent (Below n) = only (codes "below") (natural_file n)
test_file own parent (Cell Own k mask rel value) = object (put (codes "field") (string (get_or own k [])) (compared_file mask rel value))
test_file own parent (Cell Parent k mask rel value) = object (put (codes "parent") (string (get_or parent k [])) (compared_file mask rel value))
test_file own parent (Not t) = only (codes "not") (test_file own parent t)
test_file own parent (And s t) = only (codes "and") (pair_file (test_file own parent s) (test_file own parent t))
test_file own parent (Or s t) = only (codes "or") (pair_file (test_file own parent s) (test_file own parent t))

-- ---- fields

-- the word under `kind`
abbrev pub item_word : Item → List ℕ
item_word (items.Num kind) = kind_word kind
item_word (items.Equal kind value) = kind_word kind
item_word (items.Unused n) = codes "unused"
item_word (items.Struct j) = codes "struct"

-- the capacity of a counted array
abbrev pub capacity_in : Count → Option ℕ
capacity_in (Counted by capacity) = Some capacity
capacity_in count = None

-- the length of a fixed array
abbrev pub length_in : Count → Option ℕ
length_in (Fixed n) = Some n
length_in count = None

-- the field that counts an array
abbrev pub counter_in : Count → Option ℕ
counter_in (Counted by capacity) = Some by
counter_in count = None

-- the number of a constant
abbrev pub equal_in : Item → Option ℤ
equal_in (items.Equal kind value) = Some value
equal_in it = None

-- the number of unused bytes
abbrev pub size_in : Item → Option ℕ
size_in (items.Unused n) = Some n
size_in it = None

-- the number of a structure
abbrev pub struct_in : Item → Option ℕ
struct_in (items.Struct j) = Some j
struct_in it = None

-- an integer; no well-formed set has one outside of 64 bits
abbrev pub integer_file : ℤ → Data
integer_file z = if int_le (negsuc 9223372036854775807) z && int_lt z (pos 18446744073709551616) then number (of_integer z) else null

-- the members before the kind
abbrev pub front_file : List (List ℕ) → Field → Members
front_file own f =
    list_as (codes "former") string f.former
    (given_as (codes "equal") integer_file (equal_in f.item)
    (unless (is_zero f.default) (codes "default") (integer_file f.default)
    (given_as (codes "counted") (λ k. string (get_or own k [])) (counter_in f.count)
    (given_as (codes "count") natural_file (length_in f.count)
    (given_as (codes "capacity") natural_file (capacity_in f.count) no_members)))))

-- the file of a field
abbrev pub field_file : List (List ℕ) → Field → Data
field_file own f = object (
    given_as (codes "test") (test_file own []) f.test
    (given_as (codes "struct") natural_file (struct_in f.item)
    (given_as (codes "size") natural_file (size_in f.item)
    (unless (f.since == 0) (codes "since") (natural_file f.since)
    (put (codes "name") (string f.name)
    (put (codes "kind") (string (item_word f.item)) (front_file own f)))))))

-- ---- descriptions

-- the members of every description
abbrev pub desc_members : Desc → Members
desc_members d =
    put (codes "version") (natural_file d.version)
    (list_as (codes "validate") (test_file (own_names d.fields) []) d.validate
    (put (codes "name") (string d.name)
    (unless (d.minimum == d.version) (codes "minimum") (natural_file d.minimum)
    (put (codes "fields") (list_file (field_file (own_names d.fields)) d.fields) no_members))))

-- the file of a structure
abbrev pub struct_file : Desc → Data
struct_file d = object (desc_members d)

-- the file of a subsection
abbrev pub sub_file : List (List ℕ) → Sub → Data
sub_file parent s = object (put (codes "needed") (test_file (own_names s.desc.fields) parent s.needed) (desc_members s.desc))

-- the file of a device's description, with its subsections
abbrev pub whole_file : Device → Data
whole_file d = object (list_as (codes "subsections") (sub_file (own_names d.desc.fields)) d.subs (desc_members d.desc))

-- the file of a device
abbrev pub device_file : Device → Data
device_file d = object (put (codes "instance") (natural_file d.instance) (put (codes "desc") (whole_file d) no_members))

-- the file of a set
abbrev pub set_file : Set → Data
set_file set = object (
    put (codes "structs") (list_file struct_file set.structs)
    (put (codes "machines") (list_file string set.machines)
    (put (codes "devices") (list_file device_file set.devices) no_members)))
