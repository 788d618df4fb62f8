-- What the calls that walk over fields write, for the parts of a set.
use Rattle.std.specs.Prelude.{ℕ, zero, suc, ◌+◌, Bool, ◌&&◌, List, [], ◌++◌, map, ℤ, codes, decimal, string_bytes}
use Rattle.vms_kinds.specs.declared.Item.{Item}
use Rattle.vms_spec.specs.declared.Count.{Count}
use Rattle.vms_spec.specs.declared.Count.TheVariants.{One}
use Rattle.vms_spec.specs.declared.Part.{Part}
use Rattle.vms_spec.specs.Sets.{Set, Field}
use Rattle.vms_spec.specs.Tests.{is_there}
use Rattle.vms_spec.specs.Layout.{no_parent, item_size, struct_cells}
use Rattle.vms_elements.specs.Elements.{Shape, shapes, item_elements, field_elements}
use Rattle.vms_elements.specs.Parts.{elements_in}
use Rattle.vms_desc.specs.Asks.{field_at, own_numbers}
use Rattle.vms_desc.specs.Described.{described}
use Rattle.vms_desc.specs.Parts.{desc_at}
use Rattle.vms_selfdesc.specs.Drafts.{Adds}
use Rattle.vms_selfdesc.specs.Entries.{Entry, entries_of}
use Rattle.vms_selfdesc.specs.Needs.{HasPlace, HasElements}
use Rattle.vms_selfdesc.specs.Tree.{entry_tree}
use Rattle.vms_selfdesc.specs.declared.draft.Draft.{Draft}
use Rattle.vms_selfdesc.specs.declared.fields.At.{At}
use Rattle.vms_selfdesc.specs.declared.fields.Lister.{Lister}
use Rattle.vms_selfdesc.specs.declared.fields.Place.{Place}

-- The trees of these entries have been written.
abbrev pub Lists : Draft → Draft → List Entry → Type 0
Lists old new entries = Adds old new (map entry_tree entries)

-- Field k of a part is in the stream.
abbrev pub is_field_sent : Set → Part → ℕ → ℕ → Bool → List ℤ → Bool
is_field_sent set part base k sent numbers =
    let f = field_at set part k in
    sent && is_there f.test f.since (desc_at set part).version (own_numbers set part numbers base) no_parent

-- The entries of one element of an item with this default, including those of a structure.
abbrev pub item_entries : List Shape → Item → ℤ → Bool → List ℤ → List ℕ → ℕ → List Entry
item_entries shapes item default sent numbers path at = entries_of sent path (item_elements shapes item [] default numbers at)

-- The path of element i of an array.
abbrev pub element_path : List ℕ → ℕ → List ℕ
element_path path i = path ++ (codes "[" ++ (decimal i ++ codes "]"))

-- The entries of n elements, of which the first has number i and each begins `step` cells after the one before.
abbrev pub element_entries : (List ℕ → ℕ → List Entry) → List ℕ → ℕ → ℕ → ℕ → ℕ → List Entry
element_entries one path at step i zero = []
element_entries one path at step i (suc n) = one (element_path path i) at ++ element_entries one path (at + step) step (suc i) n

-- The entries of an array, with as many elements as its length or its count says, whether or not it is in the
-- stream.
abbrev pub array_entries : (List ℕ → ℕ → List Entry) → Count → ℕ → List ℕ → ℕ → ℕ → List Entry
array_entries one One n path at step = one path at
array_entries one count n path at step = element_entries one path at step 0 n

-- The entries of one element of a field.
abbrev pub item_list : Set → Field → Bool → List ℤ → List ℕ → ℕ → List Entry
item_list set f sent numbers path cell = item_entries (shapes set) f.item f.default sent numbers path cell

-- The entries of n elements of a field, one after the other.
abbrev pub elements_list : Set → Field → Bool → List ℤ → List ℕ → ℕ → ℕ → List Entry
elements_list set f sent numbers path cell n =
    element_entries (item_list set f sent numbers) path cell (item_size (struct_cells set) f.item) 0 n

-- The entries of field k of a part.
abbrev pub field_list : Set → Part → ℕ → ℕ → Bool → List ℤ → List ℕ → ℕ → List Entry
field_list set part base k sent numbers path cell =
    let d = desc_at set part in
    let own = own_numbers set part numbers base in
    entries_of sent path (field_elements (shapes set) d.fields d.version own numbers k cell (field_at set part k))

-- The entries of all fields of a part.
abbrev pub part_list : Set → Part → Bool → List ℤ → List ℕ → ℕ → List Entry
part_list set part sent numbers path cell =
    entries_of sent path (elements_in set (desc_at set part) (desc_at set part).version numbers cell)

-- ---- the same, with the code's types

-- The set of a walk.
abbrev pub set_in : Lister → Set
set_in l = described l.set.now

-- The numbers of a walk.
abbrev pub numbers_in : Lister → List ℤ
numbers_in l = l.image.now.numbers

-- The part's cells are among the numbers.
abbrev pub IsPlace : Lister → Part → ℕ → Type 0
IsPlace l part cell = HasPlace (set_in l) part cell (numbers_in l)

-- The elements' cells are among the numbers.
abbrev pub AreElements : Lister → Field → ℕ → ℕ → Type 0
AreElements l f cell n = HasElements (set_in l) f cell n (numbers_in l)

-- The entries of one element.
abbrev pub item_at : Lister → Field → Place → Draft → List Entry
item_at l f place draft = item_list (set_in l) f place.sent (numbers_in l) (string_bytes draft.path.text) place.cell

-- The entries of elements.
abbrev pub elements_at : Lister → Field → Place → ℕ → Draft → List Entry
elements_at l f place n draft = elements_list (set_in l) f place.sent (numbers_in l) (string_bytes draft.path.text) place.cell n

-- The entries of a field's elements under its path.
abbrev pub run_at : Lister → Field → Place → ℕ → Draft → List Entry
run_at l f place n draft =
    let set = set_in l in
    array_entries (item_list set f place.sent (numbers_in l)) f.count n (string_bytes draft.path.text) place.cell
    (item_size (struct_cells set) f.item)

-- The entries of a field of a part.
abbrev pub field_within : Lister → Part → Place → At → Draft → List Entry
field_within l part within at draft =
    field_list (set_in l) part within.cell at.field within.sent (numbers_in l) (string_bytes draft.path.text) at.cell

-- The entries of all fields of a part.
abbrev pub part_at : Lister → Part → Place → Draft → List Entry
part_at l part place draft = part_list (set_in l) part place.sent (numbers_in l) (string_bytes draft.path.text) place.cell
