-- The elements of a description, in order: its numbers, its constants, its unused bytes, and the points where
-- validations are judged. Arrays have their full length or capacity, and structures are expanded. Cells,
-- places of paths, slots and the lines of a values text are parts of this one list (docs/format.md, "What a
-- section has").
use Rattle.std.specs.Prelude.{ℕ, zero, suc, ◌+◌, Bool, true, ◌&&◌, nat_lt, List, [], ◌∷◌, ◌++◌, length, get_or, map, ℤ, codes}
use Rattle.std.specs.Fmt.{decimal}
use Rattle.vms_kinds.specs.declared.Kind.{Kind}
use Rattle.vms_kinds.specs.declared.Item.{Item}
use Rattle.vms_kinds.specs.declared.Item.TheVariants as items
use Rattle.vms_spec.specs.declared.Count.{Count}
use Rattle.vms_spec.specs.declared.Count.TheVariants.{One}
use Rattle.vms_spec.specs.Sets.{Field, Desc, Set}
use Rattle.vms_spec.specs.Tests.{is_there}
use Rattle.vms_spec.specs.Layout.{Cell, first, counted, capacity_of, field_cells, desc_cells, elements_of, item_size, numbers_of, no_parent, all_hold}

-- What an element is: a number, which is a cell; a constant; unused bytes; or the end of a description or of
-- a structure element, with whether its validations hold.
pub data What : Type 0 where
  Number : Cell → What
  Constant : Kind → ℤ → What
  Filler : ℕ → What
  Rule : Bool → What

-- One element. Its path has, for each structure on the way and last for itself, the number of a field and the
-- number of an element; an end has none for itself. Its name is the path as text.
pub record Element : Type 0 where
  pub path : List (ℕ × ℕ)
  pub name : List ℕ
  -- the cell of a number; for the others, the cell that comes next
  pub cell : ℕ
  pub what : What
  -- whether it is below the count of each array that it is in; if so, and if it is a number, it is printed
  pub counted : Bool
  -- whether it is in the bytes: it is counted, and so is each field there that it is in
  pub present : Bool

-- ---- what is inside of a structure

-- A structure: its cells, and its elements by the numbers of all cells and its first cell.
pub record Shape : Type 0 where
  pub cells : List Cell
  pub elements : List ℤ → ℕ → List Element

-- A structure without elements.
abbrev pub no_shape : Shape
no_shape = record { cells = []; elements = λ numbers at. [] }

-- The cells of structures.
abbrev pub cells_in : List Shape → List (List Cell)
cells_in shapes = map (λ s. s.cells) shapes

-- The number of an array's element in the text of a path; a single item has none.
abbrev pub index_text : Count → ℕ → List ℕ
index_text One e = []
index_text count e = codes "[" ++ (decimal e ++ codes "]")

-- An element in a structure, after a dot.
abbrev pub dotted : Element → Element
dotted x = record x { name = codes "." ++ x.name }

-- An element after one more step of its path, whose text is `text`. It is counted and present if what it is
-- in is so too.
abbrev pub behind : ℕ × ℕ → List ℕ → Bool → Bool → Element → Element
behind step text counted present x =
    record x { path = step ∷ x.path; name = text ++ x.name; counted = counted && x.counted; present = present && x.present }

-- An element by itself.
abbrev pub single : ℕ → What → Element
single cell what = record { path = []; name = []; cell = cell; what = what; counted = true; present = true }

-- The elements of one element of a field, which starts at cell `at`.
abbrev pub item_elements : List Shape → Item → List ℕ → ℤ → List ℤ → ℕ → List Element
item_elements shapes (items.Num kind) capacities default numbers at = single at (Number (record { kind = kind; capacities = capacities; default = default })) ∷ []
item_elements shapes (items.Equal kind z) capacities default numbers at = single at (Constant kind z) ∷ []
item_elements shapes (items.Unused n) capacities default numbers at = single at (Filler n) ∷ []
item_elements shapes (items.Struct j) capacities default numbers at = map dotted ((get_or shapes j no_shape).elements numbers at)

-- ---- fields and descriptions

-- A field among those of its description: its number, how many of its elements are counted, and whether it is
-- there.
pub record Stand : Type 0 where
  pub number : ℕ
  pub count : ℕ
  pub there : Bool

-- `n` elements of a field from element `e` on, each `step` cells after the one before.
abbrev pub array_elements : Field → Stand → (ℕ → List Element) → ℕ → ℕ → ℕ → ℕ → List Element
array_elements f stand part step e zero at = []
array_elements f stand part step e (suc n) at =
    let below = nat_lt e stand.count in
    map (behind (stand.number, e) (f.name ++ index_text f.count e) below (stand.there && below)) (part at)
    ++ array_elements f stand part step (suc e) n (at + step)

-- Field i of a description at version `v`. The number of a counted array says how many of its elements are
-- counted, at most its capacity, whether or not the array is there.
abbrev pub stand_of : ℕ → Field → ℕ → (ℕ → ℕ) → Stand
stand_of i f v own = record { number = i; count = elements_of f.count own; there = is_there f.test f.since v own no_parent }

-- The elements of field i.
abbrev pub field_elements : List Shape → List Field → ℕ → (ℕ → ℕ) → List ℤ → ℕ → ℕ → Field → List Element
field_elements shapes fields v own numbers i at f =
    array_elements f (stand_of i f v own) (item_elements shapes f.item (counted i fields) f.default numbers)
    (item_size (cells_in shapes) f.item) 0 (capacity_of f.count) at

-- The elements of the fields from i on, which start at cell `at`.
abbrev pub elements_from : List Shape → List Field → ℕ → (ℕ → ℕ) → List ℤ → ℕ → ℕ → List Field → List Element
elements_from shapes fields v own numbers i at [] = []
elements_from shapes fields v own numbers i at (f ∷ fs) =
    field_elements shapes fields v own numbers i at f
    ++ elements_from shapes fields v own numbers (suc i) (at + length (field_cells (cells_in shapes) fields i f)) fs

-- The elements of a description at version `v`, which starts at cell `at`: those of its fields, and its end.
abbrev pub desc_elements : List Shape → Desc → ℕ → List ℤ → ℕ → List Element
desc_elements shapes d v numbers at =
    let own = numbers_of (cells_in shapes) d numbers at in
    elements_from shapes d.fields v own numbers 0 at d.fields
    ++ single (at + length (desc_cells (cells_in shapes) d)) (Rule (all_hold d.validate v own)) ∷ []

-- A structure at its own version.
abbrev pub shape : List Shape → Desc → Shape
shape shapes d = record { cells = desc_cells (cells_in shapes) d; elements = λ numbers at. desc_elements shapes d d.version numbers at }

-- The shape of each structure of a set.
abbrev pub shapes : Set → List Shape
shapes set = first shape set.structs (length set.structs)
