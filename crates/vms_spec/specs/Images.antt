-- Images, which are the states of devices: which are normal and valid, and the bytes of each part
-- (docs/format.md, "Which images may be written").
use Rattle.std.specs.Prelude.{◌≡◌, Bool, false, ◌||◌, ◌==◌, ℕ, zero, suc, ◌+◌, ◌<◌, ◌≤◌, IsTrue, List, [], ◌∷◌, ◌++◌, length, get_or, map, replicate, Option, Some, None, ℤ, pos, ◌≤ℤ◌}
use Rattle.std.specs.List.{AllByRecursion}
use Rattle.vms_kinds.specs.Codes.{InRange, code}
use Rattle.vms_spec.specs.Sets.{Desc, Sub, Device, Set}
use Rattle.vms_spec.specs.Layout.{Cell, no_cell, Slot, Number, Constant, Filler, Rule, meanings, desc_cells, desc_slots, device_cells, struct_cells}

-- the state of a device: a version; for each subsection the version at which it came, or none; and
-- the numbers of all cells
pub record Image : Type 0 where
  pub version : ℕ
  pub came : List (Option ℕ)
  pub numbers : List ℤ

-- the default image: the set's version, no subsection, and all cells at their defaults
abbrev pub default_image : Set → Device → Image
default_image set d = record {
  version = d.desc.version;
  came = map (λ s. None) d.subs;
  numbers = map (λ c. c.default) (device_cells set d);
}

-- ---- the slots of its parts

-- the number of cells of the device's own fields
abbrev pub own_cells : Set → Device → ℕ
own_cells set d = length (desc_cells (struct_cells set) d.desc)

-- the place of the first cell of subsection j, if `at` is that of the first subsection in the list
abbrev pub sub_place : Set → ℕ → List Sub → ℕ → ℕ
sub_place set at [] j = at
sub_place set at (s ∷ subs) zero = at
sub_place set at (s ∷ subs) (suc j) = sub_place set (at + length (desc_cells (struct_cells set) s.desc)) subs j

-- the slots of the device's own fields at version v, by the numbers of all cells
abbrev pub own_slots : Set → Device → ℕ → List ℤ → List Slot
own_slots set d v numbers = desc_slots (meanings set.structs (length set.structs)) d.desc v numbers 0

-- the slots of subsection s at version v, whose first cell is at place `at`
abbrev pub sub_slots : Set → Sub → ℕ → List ℤ → ℕ → List Slot
sub_slots set s v numbers at = desc_slots (meanings set.structs (length set.structs)) s.desc v numbers at

-- the slots of the subsections that came, in the description's order; the first in the list has its
-- first cell at `at`
abbrev pub came_slots : Set → Device → List ℤ → ℕ → List Sub → List (Option ℕ) → List Slot
came_slots set d numbers at [] came = []
came_slots set d numbers at (s ∷ subs) [] = []
came_slots set d numbers at (s ∷ subs) (None ∷ came) = came_slots set d numbers (at + length (desc_cells (struct_cells set) s.desc)) subs came
came_slots set d numbers at (s ∷ subs) (Some v ∷ came) =
    sub_slots set s v numbers at ++ came_slots set d numbers (at + length (desc_cells (struct_cells set) s.desc)) subs came

-- the slots of an image: the device's own, then those of the subsections that came
abbrev pub image_slots : Set → Device → Image → List Slot
image_slots set d image = own_slots set d image.version image.numbers ++ came_slots set d image.numbers (own_cells set d) d.subs image.came

-- `has_cell slots k`: one of the slots is the number of cell k
abbrev pub has_cell : List Slot → ℕ → Bool
has_cell [] k = false
has_cell (Number c kind capacities ∷ slots) k = c == k || has_cell slots k
has_cell (slot ∷ slots) k = has_cell slots k

-- ---- normal and valid

-- `IsVersionOf d v`: v is from the minimum version of d to its version
abbrev pub IsVersionOf : Desc → ℕ → Type 0
IsVersionOf d v = (d.minimum ≤ v) × (v ≤ d.version)

-- each subsection that came has a version within its description's range
abbrev pub AreVersionsOf : List Sub → List (Option ℕ) → Type 0
AreVersionsOf [] [] = Unit {0}
AreVersionsOf (s ∷ subs) (None ∷ came) = AreVersionsOf subs came
AreVersionsOf (s ∷ subs) (Some v ∷ came) = IsVersionOf s.desc v × AreVersionsOf subs came
AreVersionsOf [] (o ∷ came) = ⊥
AreVersionsOf (s ∷ subs) [] = ⊥

-- a number is in its kind's range, and at most each capacity that the cell counts
abbrev pub FitsCell : Cell → ℤ → Type 0
FitsCell c z = InRange c.kind z × AllByRecursion (λ most. z ≤ℤ pos most) c.capacities

-- there are the same number of numbers and cells, and each number fits its cell
pub record FitCells (cells : List Cell) (numbers : List ℤ) : Type 0 where
  pub long : length numbers ≡ length cells
  pub fits : (c : ℕ) → c < length cells → FitsCell (get_or cells c no_cell) (get_or numbers c (pos 0))

-- a normal image: versions, numbers and counts are in range, and each cell without a byte is at its
-- default
pub record IsNormal (set : Set) (d : Device) (image : Image) : Type 0 where
  pub version : IsVersionOf d.desc image.version
  pub subs : AreVersionsOf d.subs image.came
  pub cells : FitCells (device_cells set d) image.numbers
  -- the cell of an absent field, of an element past a count, or of a subsection that didn't come
  pub absent : (c : ℕ) → c < length image.numbers → has_cell (image_slots set d image) c ≡ false → get_or image.numbers c (pos 0) ≡ (get_or (device_cells set d) c no_cell).default

-- each rule among the slots holds
abbrev pub RulesHold : List Slot → Type 0
RulesHold [] = Unit {0}
RulesHold (Rule b ∷ slots) = IsTrue b × RulesHold slots
RulesHold (Number c kind capacities ∷ slots) = RulesHold slots
RulesHold (Constant kind z ∷ slots) = RulesHold slots
RulesHold (Filler n ∷ slots) = RulesHold slots

-- a valid image: the validations of each description in the bytes hold
abbrev pub IsValid : Set → Device → Image → Type 0
IsValid set d image = RulesHold (image_slots set d image)

-- ---- bytes

-- `Spells numbers slots bytes`: these are the bytes of the slots; unused bytes have any content
abbrev pub Spells : List ℤ → List Slot → List ℕ → Type 0
Spells numbers [] bytes = bytes ≡ []
Spells numbers (Number c kind capacities ∷ slots) bytes = (rest : List ℕ) × (bytes ≡ code kind (get_or numbers c (pos 0)) ++ rest) × Spells numbers slots rest
Spells numbers (Constant kind z ∷ slots) bytes = (rest : List ℕ) × (bytes ≡ code kind z ++ rest) × Spells numbers slots rest
Spells numbers (Filler n ∷ slots) bytes = (filler rest : List ℕ) × (length filler ≡ n) × (bytes ≡ filler ++ rest) × Spells numbers slots rest
Spells numbers (Rule b ∷ slots) bytes = Spells numbers slots bytes

-- the bytes of the slots if unused bytes are 0
abbrev pub zeroed : List ℤ → List Slot → List ℕ
zeroed numbers [] = []
zeroed numbers (Number c kind capacities ∷ slots) = code kind (get_or numbers c (pos 0)) ++ zeroed numbers slots
zeroed numbers (Constant kind z ∷ slots) = code kind z ++ zeroed numbers slots
zeroed numbers (Filler n ∷ slots) = replicate n 0 ++ zeroed numbers slots
zeroed numbers (Rule b ∷ slots) = zeroed numbers slots
