-- Parts of the list of elements: numbers and their cells, slots, and the elements of a whole device.
use Rattle.std.specs.Prelude.{◌≡◌, ℕ, ◌+◌, Bool, true, false, if◌then◌else◌, List, [], ◌∷◌, ◌++◌, length, get_or, map, Option, Some, None, ℤ}
use Rattle.std.specs.List.{slice_get}
use Rattle.vms_kinds.specs.declared.Item.{Item}
use Rattle.vms_kinds.specs.declared.Item.TheVariants.{Num, Struct}
use Rattle.vms_spec.specs.Sets.{Field, Desc, Sub, Device, Set}
use Rattle.vms_spec.specs.Layout.{Cell, Slot, desc_cells, struct_cells}
use Rattle.vms_spec.specs.Layout as slots
use Rattle.vms_spec.specs.Images.{Image, default_image, own_cells}
use Rattle.vms_elements.specs.Elements.{What, Number, Constant, Filler, Rule, Element, shapes, desc_elements}

-- ---- parts of the list

-- Whether an element is a number.
abbrev pub is_number : What → Bool
is_number (Number cell) = true
is_number (Constant kind z) = false
is_number (Filler n) = false
is_number (Rule holds) = false

-- The numbers.
abbrev pub numbers_in : List Element → List Element
numbers_in [] = []
numbers_in (x ∷ xs) = if is_number x.what then x ∷ numbers_in xs else numbers_in xs

-- The cell of an element, if it has one, before the others.
abbrev pub cells_with : What → List Cell → List Cell
cells_with (Number cell) cells = cell ∷ cells
cells_with (Constant kind z) cells = cells
cells_with (Filler n) cells = cells
cells_with (Rule holds) cells = cells

-- The cells, which are those of the numbers.
abbrev pub cells_of : List Element → List Cell
cells_of [] = []
cells_of (x ∷ xs) = cells_with x.what (cells_of xs)

-- The slot of an element with this cell.
abbrev pub slot_of : ℕ → What → Slot
slot_of at (Number cell) = slots.Number at cell.kind cell.capacities
slot_of at (Constant kind z) = slots.Constant kind z
slot_of at (Filler n) = slots.Filler n
slot_of at (Rule holds) = slots.Rule holds

-- The slots, which are the elements in the bytes.
abbrev pub slots_of : List Element → List Slot
slots_of [] = []
slots_of (x ∷ xs) = if x.present then slot_of x.cell x.what ∷ slots_of xs else slots_of xs

-- The elements have the cells from `at` on, one each and in order.
abbrev pub CountsUp : ℕ → List Element → Type 0
CountsUp at [] = Unit {0}
CountsUp at (x ∷ xs) = (x.cell ≡ at) × CountsUp (at + 1) xs

-- ---- a part of a set, and a whole device

-- The elements of a description of a set.
abbrev pub elements_in : Set → Desc → ℕ → List ℤ → ℕ → List Element
elements_in set d v numbers at = desc_elements (shapes set) d v numbers at

-- An element of a subsection that didn't come; it isn't in the bytes.
abbrev pub absent : Element → Element
absent x = record x { present = false }

-- The elements of a subsection: at the version at which it came, else at the set's.
abbrev pub sub_elements : Set → Sub → Option ℕ → List ℤ → ℕ → List Element
sub_elements set s (Some v) numbers at = elements_in set s.desc v numbers at
sub_elements set s None numbers at = map absent (elements_in set s.desc s.desc.version numbers at)

-- The elements of subsections, which start at cell `at`.
abbrev pub subs_elements : Set → List Sub → List (Option ℕ) → List ℤ → ℕ → List Element
subs_elements set [] came numbers at = []
subs_elements set (s ∷ subs) [] numbers at = []
subs_elements set (s ∷ subs) (o ∷ came) numbers at =
    sub_elements set s o numbers at ++ subs_elements set subs came numbers (at + length (desc_cells (struct_cells set) s.desc))

-- The elements of a device for an image: of its own fields, and then of each subsection.
abbrev pub device_elements : Set → Device → Image → List Element
device_elements set d image =
    elements_in set d.desc image.version image.numbers 0 ++ subs_elements set d.subs image.came image.numbers (own_cells set d)

-- ---- paths

-- The field that `inside` finds in a structure.
abbrev pub inner_field : (ℕ → Option Field) → Item → Option Field
inner_field inside (Struct j) = inside j
inner_field inside item = None

-- The field that the rest of a path names, from this field on.
abbrev pub last_field : (ℕ → Option Field) → List (ℕ × ℕ) → Option Field → Option Field
last_field inside path None = None
last_field inside [] (Some f) = Some f
last_field inside (step ∷ path) (Some f) = inner_field inside f.item

-- The field that a path names.
abbrev pub field_named : Set → List (ℕ × ℕ) → Option Desc → Option Field
field_named set [] d = None
field_named set (step ∷ path) None = None
field_named set (step ∷ path) (Some d) = last_field (λ j. field_named set path (slice_get set.structs j)) path (slice_get d.fields step.0)

-- The field has single numbers, or arrays of them, of this kind and with this default.
abbrev pub IsFieldOf : Cell → Option Field → Type 0
IsFieldOf cell None = ⊥
IsFieldOf cell (Some f) = (f.item ≡ Num cell.kind) × (f.default ≡ cell.default)

-- ---- names

-- The paths of the numbers as text, cell by cell.
abbrev pub names_of : List Element → List (List ℕ)
names_of xs = map (λ x. x.name) (numbers_in xs)

-- The path of a cell of a device as text. It is the same for each image.
abbrev pub cell_name : Set → Device → ℕ → List ℕ
cell_name set d c = get_or (names_of (device_elements set d (default_image set d))) c []
