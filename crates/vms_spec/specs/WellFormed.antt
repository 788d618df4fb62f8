-- Which sets are well formed, and the first fault of a set that isn't (docs/format.md, "Which sets
-- are well formed"). It is the first place of the walk below at which one of the eight rules fails,
-- with the lowest rule that fails there. Each place has a list of its eight rules, in their order.
use Rattle.std.specs.Prelude.{◌≡◌, ℕ, suc, ◌+◌, ◌*◌, Bool, true, false, not, ◌&&◌, ◌==◌, nat_le, max, List, [], ◌∷◌, length, get_or, take, map, Option, Some, None}
use Rattle.std.specs.List.{list_all, list_any}
use Rattle.std.specs.Str.{bytes_eq}
use Rattle.vms_kinds.specs.declared.Item.{Item}
use Rattle.vms_kinds.specs.declared.Item.TheVariants.{Struct}
use Rattle.vms_spec.specs.declared.TheConstants.{MOST_ITEMS}
use Rattle.vms_spec.specs.declared.Part.{Part}
use Rattle.vms_spec.specs.declared.Part.TheVariants as parts
use Rattle.vms_spec.specs.declared.Place.{Place}
use Rattle.vms_spec.specs.Lists.{or_else, first_answer}
use Rattle.vms_spec.specs.Sets.{Field, Desc, Sub, Device, Set}
use Rattle.vms_spec.specs.Layout.{first, capacity_of}
use Rattle.vms_spec.specs.Streams.{is_one_of}
use Rattle.vms_spec.specs.Names.{is_name, is_sub_name}
use Rattle.vms_spec.specs.Rules.{is_small_test, is_steady_in, names_well, field_rules, validation_rules}

-- a failing rule, 1 to 8, and its place
pub record SetFault : Type 0 where
  pub rule : ℕ
  pub place : Place

-- the first failing rule at a place, if the first in the list has number r
abbrev pub failing : ℕ → List Bool → Place → Option SetFault
failing r [] place = None
failing r (true ∷ rules) place = failing (suc r) rules place
failing r (false ∷ rules) place = Some (record { rule = r; place = place })

-- the place of a part itself
abbrev pub here : Part → Place
here part = record { part = part; field = None }

-- the place of a field of a part
abbrev pub in_field : Part → ℕ → Place
in_field part i = record { part = part; field = Some i }

-- ---- one description: itself, its fields, its validations

-- the first fault at a field; the description may use the structures of numbers below k
abbrev pub fields_fault : ℕ → Desc → Part → Option SetFault
fields_fault k d part = first_answer (λ i f. failing 1 (field_rules k d i f) (in_field part i)) 0 d.fields

-- the first fault at a validation
abbrev pub validations_fault : Desc → Part → Option SetFault
validations_fault d part = first_answer (λ i t. failing 1 (validation_rules d t) (here part)) 0 d.validate

-- the first fault of a description: by its own rules, its fields, and its validations
abbrev pub desc_fault : ℕ → Desc → Part → List Bool → Option SetFault
desc_fault k d part rules = or_else (failing 1 rules (here part)) (or_else (fields_fault k d part) (validations_fault d part))

-- there are at most 256 fields and 16 validations
abbrev pub has_few : Desc → Bool
has_few d = nat_le (length d.fields) 256 && nat_le (length d.validate) 16

-- ---- structures

-- the depth of an item: that of its structure, otherwise 0
abbrev pub item_depth : List ℕ → Item → ℕ
item_depth depths (Struct j) = get_or depths j 0
item_depth depths _ = 0

-- the greatest depth of the fields' items
abbrev pub deepest : List ℕ → List Field → ℕ
deepest depths [] = 0
deepest depths (f ∷ fs) = max (item_depth depths f.item) (deepest depths fs)

-- the depth of each structure; one that uses no other has depth 1
abbrev pub struct_depths : List Desc → List ℕ
struct_depths structs = first (λ depths d. 1 + deepest depths d.fields) structs (length structs)

-- the eight rules at structure i
abbrev pub struct_rules : List Desc → ℕ → Desc → List Bool
struct_rules structs i d =
    is_name 100 d.name
    ∷ not (is_one_of (map (λ e. e.name) (take i structs)) d.name)
    ∷ nat_le d.minimum d.version
    ∷ true ∷ true ∷ true
    ∷ (has_few d && nat_le (get_or (struct_depths structs) i 0) 4)
    ∷ nat_le 1 (length d.fields)
    ∷ []

-- the first fault of structure i
abbrev pub struct_fault : List Desc → ℕ → Desc → Option SetFault
struct_fault structs i d = desc_fault i d (parts.Struct i) (struct_rules structs i d)

-- ---- devices and their subsections

-- the eight rules at subsection j; a needed test belongs to the subsection itself
abbrev pub sub_rules : Device → ℕ → Sub → List Bool
sub_rules d j s =
    is_sub_name d.desc.name s.desc.name
    ∷ not (is_one_of (map (λ e. e.desc.name) (take j d.subs)) s.desc.name)
    ∷ nat_le s.desc.minimum s.desc.version
    ∷ names_well (is_steady_in s.desc) (is_steady_in d.desc) s.needed
    ∷ true ∷ true
    ∷ (has_few s.desc && is_small_test s.needed)
    ∷ true
    ∷ []

-- the first fault of subsection j of device i, if there are k structures
abbrev pub sub_fault : ℕ → ℕ → Device → ℕ → Sub → Option SetFault
sub_fault k i d j s = desc_fault k s.desc (parts.Sub i j) (sub_rules d j s)

-- the device has this name and instance
abbrev pub is_same_device : List ℕ → ℕ → Device → Bool
is_same_device name instance d = bytes_eq d.desc.name name && d.instance == instance

-- the eight rules at device i
abbrev pub device_rules : Set → ℕ → Device → List Bool
device_rules set i d =
    is_name 100 d.desc.name
    ∷ not (list_any (is_same_device d.desc.name d.instance) (take i set.devices))
    ∷ nat_le d.desc.minimum d.desc.version
    ∷ true ∷ true ∷ true
    ∷ (has_few d.desc && nat_le (length d.subs) 32)
    ∷ true
    ∷ []

-- the first fault of device i and its subsections
abbrev pub device_fault : Set → ℕ → Device → Option SetFault
device_fault set i d =
    or_else (desc_fault (length set.structs) d.desc (parts.Device i) (device_rules set i d)) (first_answer (sub_fault (length set.structs) i d) 0 d.subs)

-- ---- the set

-- no name is twice in the list
abbrev pub are_distinct : List (List ℕ) → Bool
are_distinct [] = true
are_distinct (n ∷ names) = not (is_one_of names n) && are_distinct names

-- the eight rules at the set, without its number of items
abbrev pub set_rules : Set → List Bool
set_rules set =
    list_all (is_name 64) set.machines
    ∷ are_distinct set.machines
    ∷ true ∷ true ∷ true ∷ true
    ∷ (nat_le (length set.machines) 16 && nat_le (length set.structs) 64 && nat_le (length set.devices) 64)
    ∷ true
    ∷ []

-- The number of numbers, constants and unused items. Arrays count with their full length or
-- capacity, and structures wherever they are used. A structure that no device uses doesn't count.
abbrev pub item_count : List ℕ → Item → ℕ
item_count sizes (Struct j) = get_or sizes j 0
item_count sizes _ = 1

-- the items of the fields
abbrev pub items_in : List ℕ → List Field → ℕ
items_in sizes [] = 0
items_in sizes (f ∷ fs) = capacity_of f.count * item_count sizes f.item + items_in sizes fs

-- the items of each structure
abbrev pub struct_items : List Desc → List ℕ
struct_items structs = first (λ sizes d. items_in sizes d.fields) structs (length structs)

-- the items of the subsections
abbrev pub subs_items : List ℕ → List Sub → ℕ
subs_items sizes [] = 0
subs_items sizes (s ∷ subs) = items_in sizes s.desc.fields + subs_items sizes subs

-- the items of the devices
abbrev pub devices_items : List ℕ → List Device → ℕ
devices_items sizes [] = 0
devices_items sizes (d ∷ devices) = items_in sizes d.desc.fields + (subs_items sizes d.subs + devices_items sizes devices)

-- the eight rules at the set again, for its number of items
abbrev pub size_rules : Set → List Bool
size_rules set = true ∷ true ∷ true ∷ true ∷ true ∷ true ∷ nat_le (devices_items (struct_items set.structs) set.devices) MOST_ITEMS ∷ true ∷ []

-- the first fault in the order of the walk: the set, the structures, the devices each with its
-- subsections, and the set again for its number of items
unfoldable pub first_fault : Set → Option SetFault
first_fault set =
    or_else (failing 1 (set_rules set) (here parts.Set))
    (or_else (first_answer (struct_fault set.structs) 0 set.structs)
    (or_else (first_answer (device_fault set) 0 set.devices)
    (failing 1 (size_rules set) (here parts.Set))))

-- a set is well formed if no rule fails
abbrev pub WellFormed : Set → Type 0
WellFormed set = first_fault set ≡ None
