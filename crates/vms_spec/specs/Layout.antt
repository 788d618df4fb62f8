-- The cells of a description, which are its numbers, and the slots of its bytes (docs/format.md,
-- "What a section has").
use Rattle.std.specs.Prelude.{ℕ, zero, suc, min, ◌+◌, Bool, true, ◌&&◌, ◌==◌, if◌then◌else◌, List, [], ◌∷◌, ◌++◌, length, get_or, map, ℤ, pos, None}
use Rattle.std.specs.List.{flat_map}
use Rattle.vms_kinds.specs.declared.Kind.{Kind}
use Rattle.vms_kinds.specs.declared.Kind.TheVariants.{U8}
use Rattle.vms_kinds.specs.declared.Item.{Item}
use Rattle.vms_kinds.specs.declared.Item.TheVariants.{Num, Equal, Unused, Struct}
use Rattle.vms_kinds.specs.Codes.{width, residue}
use Rattle.vms_spec.specs.declared.Count.{Count}
use Rattle.vms_spec.specs.declared.Count.TheVariants.{One, Fixed, Counted}
use Rattle.vms_spec.specs.Sets.{Formula, Field, Desc, Device, Set}
use Rattle.vms_spec.specs.Tests.{truth, is_there}

-- ---- tables by number

-- the description that is used if there is none: it has no name and no field
abbrev pub no_desc : Desc
no_desc = record { name = []; version = 0; minimum = 0; fields = []; validate = [] }

-- `first f descs k` is what f makes of each of the first k descriptions, given what it made of the
-- earlier ones. A structure that uses itself or a later one, which no well-formed set has, finds
-- nothing there.
unfoldable pub first : {B : Type 0} → (List B → Desc → B) → List Desc → ℕ → List B
first f ds zero = []
first f ds (suc k) = let earlier = first f ds k in earlier ++ f earlier (get_or ds k no_desc) ∷ []

-- n parts one after the other; the first begins at the given place, each further one `step` cells
-- later
abbrev pub times : {B : Type 0} → ℕ → (ℕ → List B) → ℕ → ℕ → List B
times zero part at step = []
times (suc n) part at step = part at ++ times n part (at + step) step

-- ---- cells

-- a cell, which is one number of a state: its kind, the capacities of the arrays that it counts,
-- and its default
pub record Cell : Type 0 where
  pub kind : Kind
  pub capacities : List ℕ
  pub default : ℤ

-- the cell that is used if there is none
abbrev pub no_cell : Cell
no_cell = record { kind = U8; capacities = []; default = pos 0 }

-- the capacities of the arrays that field i counts, whether or not the arrays are present
abbrev pub counted : ℕ → List Field → List ℕ
counted i [] = []
counted i (f ∷ fs) = capacity f.count ++ counted i fs where
  capacity : Count → List ℕ
  capacity (Counted by most) = if by == i then most ∷ [] else []
  capacity _ = []

-- the number of elements for which a field has cells: its length or its capacity
abbrev pub capacity_of : Count → ℕ
capacity_of One = 1
capacity_of (Fixed n) = n
capacity_of (Counted by most) = most

-- the cells of one element of an item, given those of the structures; a constant and unused bytes
-- have none
abbrev pub item_cells : List (List Cell) → Item → List ℕ → ℤ → List Cell
item_cells structs (Num kind) capacities default = record { kind = kind; capacities = capacities; default = default } ∷ []
item_cells structs (Equal kind z) capacities default = []
item_cells structs (Unused n) capacities default = []
item_cells structs (Struct j) capacities default = get_or structs j []

-- the cells of field i, element by element
abbrev pub field_cells : List (List Cell) → List Field → ℕ → Field → List Cell
field_cells structs fields i f = times (capacity_of f.count) (λ _. item_cells structs f.item (counted i fields) f.default) 0 0

-- the cells of the given fields, of which the first is field i
abbrev pub cells_from : List (List Cell) → List Field → ℕ → List Field → List Cell
cells_from structs fields i [] = []
cells_from structs fields i (f ∷ fs) = field_cells structs fields i f ++ cells_from structs fields (suc i) fs

-- the cells of a description, given those of the structures
abbrev pub desc_cells : List (List Cell) → Desc → List Cell
desc_cells structs d = cells_from structs d.fields 0 d.fields

-- the cells of each structure of a set
abbrev pub struct_cells : Set → List (List Cell)
struct_cells set = first desc_cells set.structs (length set.structs)

-- the cells of a device: those of its own fields, and then those of each subsection
abbrev pub device_cells : Set → Device → List Cell
device_cells set d = desc_cells (struct_cells set) d.desc ++ flat_map (λ s. desc_cells (struct_cells set) s.desc) d.subs

-- ---- the numbers of fields

-- the place of the first cell of field k; the first field in the list is field i, and its first
-- cell is at the given place
abbrev pub place_of : List (List Cell) → List Field → ℕ → ℕ → List Field → ℕ → ℕ
place_of structs fields i at [] k = at
place_of structs fields i at (f ∷ fs) zero = at
place_of structs fields i at (f ∷ fs) (suc k) = place_of structs fields (suc i) (at + length (field_cells structs fields i f)) fs k

-- the kind of an item's number; any kind for unused bytes and structures, which no test of a
-- well-formed set names
abbrev pub kind_of : Item → Kind
kind_of (Num kind) = kind
kind_of (Equal kind z) = kind
kind_of _ = U8

-- the field that is used if there is none
abbrev pub no_field : Field
no_field = record { name = []; former = []; item = Num U8; count = One; since = 0; test = None; default = pos 0 }

-- the number of field k modulo 2 ^ (8 w), if it has w bytes, in a description whose first cell is
-- at a given place
abbrev pub numbers_of : List (List Cell) → Desc → List ℤ → ℕ → ℕ → ℕ
numbers_of structs d numbers at k =
    residue (width (kind_of (get_or d.fields k no_field).item)) (get_or numbers (place_of structs d.fields 0 at d.fields k) (pos 0))

-- the parent's numbers for a test that has no parent: every test but a needed test
abbrev pub no_parent : ℕ → ℕ
no_parent k = 0

-- all these tests hold at a version, by the given numbers of fields
abbrev pub all_hold : List Formula → ℕ → (ℕ → ℕ) → Bool
all_hold [] v own = true
all_hold (t ∷ ts) v own = truth t v own no_parent && all_hold ts v own

-- ---- slots

-- A slot is a part of a description's bytes. It is the number of a cell, with its kind and the
-- capacities that it counts; a constant; unused bytes of any content; or a rule. A rule has no
-- bytes. It says whether the validations hold of the description, or structure element, whose
-- fields end there.
pub data Slot : Type 0 where
  Number : ℕ → Kind → List ℕ → Slot
  Constant : Kind → ℤ → Slot
  Filler : ℕ → Slot
  Rule : Bool → Slot

-- what a structure means: its cells, and its slots by the numbers of all cells and the place of its
-- first cell
pub record Meaning : Type 0 where
  pub cells : List Cell
  pub slots : List ℤ → ℕ → List Slot

-- the meaning that is used if there is no structure
abbrev pub no_meaning : Meaning
no_meaning = record { cells = []; slots = λ numbers at. [] }

-- The number of elements of a field in the bytes. For a counted array it is the number of its
-- count. A count above the capacity, which no normal state has, is taken as the capacity.
abbrev pub elements_of : Count → (ℕ → ℕ) → ℕ
elements_of One own = 1
elements_of (Fixed n) own = n
elements_of (Counted by most) own = min (own by) most

-- the slots of one element whose first cell is at a place
abbrev pub item_slots : List Meaning → Item → List ℕ → List ℤ → ℕ → List Slot
item_slots structs (Num kind) capacities numbers at = Number at kind capacities ∷ []
item_slots structs (Equal kind z) capacities numbers at = Constant kind z ∷ []
item_slots structs (Unused n) capacities numbers at = Filler n ∷ []
item_slots structs (Struct j) capacities numbers at = (get_or structs j no_meaning).slots numbers at

-- the number of cells of one element
abbrev pub item_size : List (List Cell) → Item → ℕ
item_size structs item = length (item_cells structs item [] (pos 0))

-- the slots of field i if it is present, otherwise none
abbrev pub field_slots : List Meaning → List Field → ℕ → (ℕ → ℕ) → List ℤ → ℕ → ℕ → Field → List Slot
field_slots structs fields v own numbers i at f =
    if is_there f.test f.since v own no_parent
    then times (elements_of f.count own) (item_slots structs f.item (counted i fields) numbers) at (item_size (map (λ m. m.cells) structs) f.item)
    else []

-- the slots of the given fields, of which the first is field i and begins at a place
abbrev pub slots_from : List Meaning → List Field → ℕ → (ℕ → ℕ) → List ℤ → ℕ → ℕ → List Field → List Slot
slots_from structs fields v own numbers i at [] = []
slots_from structs fields v own numbers i at (f ∷ fs) =
    field_slots structs fields v own numbers i at f
    ++ slots_from structs fields v own numbers (suc i) (at + length (field_cells (map (λ m. m.cells) structs) fields i f)) fs

-- the slots of a description at a version: those of its fields, whose cells begin at a place, and
-- then the rule of its validations
abbrev pub desc_slots : List Meaning → Desc → ℕ → List ℤ → ℕ → List Slot
desc_slots structs d v numbers at =
    let own = numbers_of (map (λ m. m.cells) structs) d numbers at in
    slots_from structs d.fields v own numbers 0 at d.fields ++ Rule (all_hold d.validate v own) ∷ []

-- the meaning of a structure, which is written and read at its own version
abbrev pub meaning : List Meaning → Desc → Meaning
meaning structs d = record {
  cells = desc_cells (map (λ m. m.cells) structs) d;
  slots = λ numbers at. desc_slots structs d d.version numbers at;
}

-- the meanings of the first k structures
abbrev pub meanings : List Desc → ℕ → List Meaning
meanings structs k = first meaning structs k
