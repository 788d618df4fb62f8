-- What the calls of a walk need, and what they do, by the set that they borrow.
use Rattle.std.specs.Prelude.{◌≡◌, ℕ, ◌+◌, ◌*◌, ◌<◌, ◌≤◌, true, Bool, List, length, ℤ, Option, None, Result}
use Rattle.vms_kinds.specs.declared.Item.{Item}
use Rattle.vms_kinds.specs.declared.Item.TheVariants.{Num}
use Rattle.vms_kinds.specs.declared.Kind.{Kind}
use Rattle.vms_kinds.specs.declared.Kind.TheVariants as kinds
use Rattle.vms_spec.specs.declared.TheConstants.{MOST_ITEMS}
use Rattle.vms_spec.specs.Layout.{Slot, capacity_of}
use Rattle.vms_spec.specs.Rules.{uses_below}
use Rattle.vms_spec.specs.Sets.{Field}
use Rattle.vms_desc.specs.Calls.{AreFieldsOf}
use Rattle.vms_desc.specs.Asks.{field_at}
use Rattle.vms_desc.specs.Described.{described}
use Rattle.vms_desc.specs.Parts.{desc_at}
use Rattle.vms_desc.specs.declared.set.DescSet.{DescSet}
use Rattle.vms_walk.specs.Laws.{Does}
use Rattle.vms_walk.specs.Runs.{MayRun, run_of}
use Rattle.vms_walk.specs.Steps.{HasSpot, MayCome, cell_of, elements_by, field_by, holds_at, item_by, present_of, size_in, spot_numbers, spot_slots, steps_of}
use Rattle.vms_walk.specs.declared.fields.Elements.{Elements}
use Rattle.vms_walk.specs.declared.fields.Here.{Here}
use Rattle.vms_walk.specs.declared.fields.PartAt.{PartAt}
use Rattle.vms_walk.specs.declared.step.WalkStep.{WalkStep}

-- ---- what a set has

-- the spot is a part of the set, or one element of a structure, whose cells are among the numbers
abbrev pub IsSpotOf : DescSet → PartAt → List ℤ → Type 0
IsSpotOf set p numbers = HasSpot (described set) p numbers

-- f is one of its fields
pub record HasField (set : DescSet) (p : PartAt) (f : Field) (numbers : List ℤ) : Type 0 where
  pub spot : IsSpotOf set p numbers
  pub number : ℕ
  pub field : number < length (desc_at (described set) p.part).fields
  pub is : f ≡ field_at (described set) p.part number

-- how many elements of field f are in the bytes
abbrev pub present_in : DescSet → PartAt → Field → List ℤ → ℕ
present_in set p f numbers = present_of f p.version (spot_numbers (described set) p numbers)

-- whether the validations of the spot hold
abbrev pub holds_in : DescSet → PartAt → List ℤ → Bool
holds_in set p numbers = holds_at (described set) p numbers

-- its slots, by the numbers
abbrev pub spot_in : DescSet → PartAt → List ℤ → List Slot
spot_in set p numbers = spot_slots (described set) p numbers

-- those of its field k, whose cells begin at `cell`
abbrev pub field_in : DescSet → PartAt → ℕ → ℕ → List ℤ → List Slot
field_in set p k cell numbers = field_by (described set) p k cell numbers

-- those of one element
abbrev pub item_in : DescSet → Item → Option ℕ → ℕ → List ℤ → List Slot
item_in set item most cell numbers = item_by (described set) item most cell numbers

-- those of a row of elements
abbrev pub row_in : DescSet → Elements → List ℤ → List Slot
row_in set row numbers = elements_by (described set) row.item.now row.most row.count row.first numbers

-- the elements are numbers of a kind for which any code is valid, and count nothing
pub record AreFree (row : Elements) (kind : Kind) : Type 0 where
  pub number : row.item.now ≡ Num kind
  pub free : row.most ≡ None
  pub any : kind ≡ kinds.Bool → ⊥

-- ---- what a walker may be called for

module _ {S F : Type 0} (does : Does S F) (numbers_of : S → List ℤ) (lets : S → WalkStep → Type 0) where
  -- one element, whose cells begin at `cell`
  pub record CanWalkItem (set : DescSet) (item : Item) (most : Option ℕ) (cell : ℕ) (walker : S) : Type 0 where
    pub reaches : uses_below (length (described set).structs) item ≡ true
    pub may : MayCome does numbers_of lets (item_in set item most cell) walker
    pub room : cell + size_in (described set) item ≤ length (numbers_of walker)
    pub few : length (numbers_of walker) ≤ MOST_ITEMS

  -- the elements of a row
  pub record CanWalkRow (set : DescSet) (row : Elements) (walker : S) : Type 0 where
    pub reaches : uses_below (length (described set).structs) row.item.now ≡ true
    pub may : MayCome does numbers_of lets (row_in set row) walker
    pub small : size_in (described set) row.item.now ≤ MOST_ITEMS
    pub room : row.first + row.count * size_in (described set) row.item.now ≤ length (numbers_of walker)
    pub few : length (numbers_of walker) ≤ MOST_ITEMS

  -- numbers of one kind, which count nothing, in consecutive cells from `first` on
  pub record CanWalkRun (first count : ℕ) (kind : Kind) (walker : S) : Type 0 where
    pub number : kind ≡ kinds.Bool → ⊥
    pub room : first + count ≤ length (numbers_of walker)
    pub few : length (numbers_of walker) ≤ MOST_ITEMS
    pub may : MayRun does lets (run_of first count kind) walker

  -- field k of a spot, whose cells begin at `cell`
  pub record CanWalkField (set : DescSet) (h : Here) (k cell : ℕ) (walker : S) : Type 0 where
    pub spot : IsSpotOf set h.spot (numbers_of walker)
    pub fields : AreFieldsOf set h.spot.part h.fields
    pub field : k < length (desc_at (described set) h.spot.part).fields
    pub here : cell ≡ cell_of (described set) h.spot k
    pub may : MayCome does numbers_of lets (field_in set h.spot k cell) walker
    pub room : cell + capacity_of (field_at (described set) h.spot.part k).count * size_in (described set) (field_at (described set) h.spot.part k).item
        ≤ length (numbers_of walker)

-- ---- what a walker did

-- it took the steps of these slots, by the numbers that it has at the end, or stopped within them
abbrev pub Walks : {S F : Type 0} → Does S F → (S → List ℤ) → (List ℤ → List Slot) → Result (Unit {0}) F → S → S → Type 0
Walks {S} {F} does numbers_of slots_by result old new = does (steps_of (slots_by (numbers_of new))) old result new
