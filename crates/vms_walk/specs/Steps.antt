-- The steps of a part, and what the walk requires.
use Rattle.std.specs.Prelude.{◌≡◌, ℕ, ◌≤◌, Bool, List, [], ◌∷◌, ◌++◌, length, map, ℤ, Option, Some, None, Ok, if◌then◌else◌}
use Rattle.vms_kinds.specs.declared.Item.{Item}
use Rattle.vms_parts.specs.Capacities.{least_of}
use Rattle.vms_spec.specs.declared.TheConstants.{MOST_ITEMS}
use Rattle.vms_spec.specs.Sets.{Set, Field}
use Rattle.vms_spec.specs.Tests.{is_there}
use Rattle.vms_spec.specs.Layout.{Cell, Meaning, meanings, Slot, numbers_of, no_parent, elements_of, all_hold, item_slots, item_size, times, field_slots, desc_slots, place_of}
use Rattle.vms_spec.specs.Layout as slots
use Rattle.vms_desc.specs.Asks.{field_at, own_numbers, HasCells}
use Rattle.vms_desc.specs.Parts.{HasPart, desc_at}
use Rattle.vms_walk.specs.Laws.{Does}
use Rattle.vms_walk.specs.declared.step.WalkStep.{WalkStep}
use Rattle.vms_walk.specs.declared.step.WalkStep.TheVariants as steps
use Rattle.vms_walk.specs.declared.fields.PartAt.{PartAt}

-- The step for a slot. It keeps only the least of the capacities that a number counts.
abbrev pub step_of : Slot → WalkStep
step_of (slots.Number cell kind capacities) = steps.Number cell kind (least_of capacities)
step_of (slots.Constant kind value) = steps.Constant kind value
step_of (slots.Filler bytes) = steps.Filler bytes
step_of (slots.Rule holds) = steps.Rule holds

-- The steps for slots.
abbrev pub steps_of : List Slot → List WalkStep
steps_of xs = map step_of xs

-- The meaning of each structure of a set.
abbrev pub table : Set → List Meaning
table set = meanings set.structs (length set.structs)

-- The cells of these structures.
abbrev pub cells_in : List Meaning → List (List Cell)
cells_in ms = map (λ m. m.cells) ms

-- `HasSpot set spot numbers`: `spot` is a part of the set, or one element of a structure, whose cells are
-- among the numbers.
pub record HasSpot (set : Set) (spot : PartAt) (numbers : List ℤ) : Type 0 where
  pub part : HasPart set spot.part
  pub few : length numbers ≤ MOST_ITEMS
  pub room : HasCells set spot.part numbers spot.base

-- The numbers of its fields.
abbrev pub spot_numbers : Set → PartAt → List ℤ → ℕ → ℕ
spot_numbers set spot numbers = numbers_of (cells_in (table set)) (desc_at set spot.part) numbers spot.base

-- Whether its validations hold.
abbrev pub holds_at : Set → PartAt → List ℤ → Bool
holds_at set spot numbers = all_hold (desc_at set spot.part).validate spot.version (own_numbers set spot.part numbers spot.base)

-- Its slots.
abbrev pub spot_slots : Set → PartAt → List ℤ → List Slot
spot_slots set spot numbers = desc_slots (table set) (desc_at set spot.part) spot.version numbers spot.base

-- The slots of its field k, which starts at `cell`.
abbrev pub slots_at : Set → PartAt → List ℤ → ℕ → ℕ → List Slot
slots_at set spot numbers k cell = field_slots (table set) (desc_at set spot.part).fields spot.version (spot_numbers set spot numbers) numbers k cell (field_at set spot.part k)

-- The number of elements of a field in the bytes: none if the field is absent.
abbrev pub present_of : Field → ℕ → (ℕ → ℕ) → ℕ
present_of f v own = if is_there f.test f.since v own no_parent then elements_of f.count own else 0

-- The number of cells of one element.
abbrev pub size_in : Set → Item → ℕ
size_in set item = item_size (cells_in (table set)) item

-- A list of capacities with this least one.
abbrev pub capacities_of : Option ℕ → List ℕ
capacities_of None = []
capacities_of (Some most) = most ∷ []

-- The slots of `count` elements, which may count arrays of capacity `most`.
abbrev pub elements_slots : Set → Item → Option ℕ → List ℤ → ℕ → ℕ → List Slot
elements_slots set item most numbers count cell = times count (item_slots (table set) item (capacities_of most) numbers) cell (size_in set item)

-- The slots of one element, by the numbers.
abbrev pub item_by : Set → Item → Option ℕ → ℕ → List ℤ → List Slot
item_by set item most cell numbers = item_slots (table set) item (capacities_of most) numbers cell

-- The slots of `count` elements, by the numbers.
abbrev pub elements_by : Set → Item → Option ℕ → ℕ → ℕ → List ℤ → List Slot
elements_by set item most count first numbers = elements_slots set item most numbers count first

-- The slots of a field, by the numbers.
abbrev pub field_by : Set → PartAt → ℕ → ℕ → List ℤ → List Slot
field_by set spot k cell numbers = slots_at set spot numbers k cell

-- The first cell of field k.
abbrev pub cell_of : Set → PartAt → ℕ → ℕ
cell_of set spot k = place_of (cells_in (table set)) (desc_at set spot.part).fields 0 spot.base (desc_at set spot.part).fields k

-- Wherever the walker is among the steps of these slots, each remaining one may come.
abbrev pub MayCome : {S F : Type 0} → Does S F → (S → List ℤ) → (S → WalkStep → Type 0) → (List ℤ → List Slot) → S → Type 0
MayCome {S} {F} does numbers may slots_by a =
    (xs ys rest : List WalkStep) (x : WalkStep) (b : S) → does xs a (Ok tt) b → steps_of (slots_by (numbers b)) ≡ xs ++ (ys ++ (x ∷ rest)) → may b x
