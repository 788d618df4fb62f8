-- What the calls on a set need and return, by the set that they borrow.
use Rattle.std.specs.Prelude.{◌≡◌, ℕ, ◌+◌, ◌*◌, ◌<◌, ◌≤◌, true, Bool, List, length, map, ℤ}
use Rattle.vms_parts.specs.{Capacities.AreLeast, Views.field_of}
use Rattle.vms_kinds.specs.declared.Item.{Item}
use Rattle.vms_spec.specs.declared.Part.{Part}
use Rattle.vms_spec.specs.declared.Part.TheVariants as parts
use Rattle.vms_spec.specs.declared.TheConstants.{MOST_ITEMS}
use Rattle.vms_spec.specs.Layout.{Cell, all_hold, capacity_of, device_cells, elements_of, item_size, no_parent, numbers_of, struct_cells}
use Rattle.vms_spec.specs.Places.{own_cell_count}
use Rattle.vms_spec.specs.Rules.{names_well, nobody}
use Rattle.vms_spec.specs.Sets.{Desc, Device, Field, Formula}
use Rattle.vms_spec.specs.Tests.{is_there, truth}
use Rattle.vms_spots.specs.declared.layout.TheConstants.{MOST_BYTES}
use Rattle.vms_spots.specs.declared.layout.Spot.{Spot}
use Rattle.vms_spots.specs.Spots.{AreApart, Held, bytes_of, spots_of}
use Rattle.vms_desc.specs.Asks.{HasCells, field_at, field_start, first_cell, needed_at, own_numbers}
use Rattle.vms_desc.specs.Described.{described, device_at}
use Rattle.vms_desc.specs.Numbers.{sizes_of}
use Rattle.vms_desc.specs.Parts.{HasParentCells, HasPart, desc_at, is_number_in, is_placed, parent_of}
use Rattle.vms_desc.specs.Scopes.{IsScope}
use Rattle.vms_desc.specs.Spots.{defaults_at, kinds_at}
use Rattle.vms_desc.specs.Tables.{AreStarts, AreTables, IsTable, device_fields}
use Rattle.vms_desc.specs.declared.asks.PartFields.{PartFields}
use Rattle.vms_desc.specs.declared.eval.Scope.{Scope}
use Rattle.vms_desc.specs.declared.set.DescSet.{DescSet}
use Rattle.vms_desc.specs.declared.table.Table.{Table}

-- ---- devices

-- the set describes device i
abbrev pub DescribesDevice : DescSet → ℕ → Type 0
DescribesDevice s i = i < length (described s).devices

-- device i
abbrev pub device_in : DescSet → ℕ → Device
device_in s i = device_at (described s) i

-- its cells
abbrev pub device_cells_in : DescSet → ℕ → List Cell
device_cells_in s i = device_cells (described s) (device_in s i)

-- it describes cell k of device i
pub record DescribesCell (s : DescSet) (i k : ℕ) : Type 0 where
  pub is_device : DescribesDevice s i
  pub is_cell : k < length (device_cells_in s i)

-- the defaults of the cells of device i
pub record AreDefaults (s : DescSet) (i : ℕ) (cells : Held) : Type 0 where
  pub defaults : cells ≡ defaults_at (described s) i
  pub few : length cells.numbers ≤ MOST_ITEMS

-- the spots of the numbers of device i in the bytes of its image
abbrev pub spots_in : DescSet → ℕ → List Spot
spots_in s i = spots_of (kinds_at (described s) i)

-- these are its spots; none overlaps another
pub record AreSpots (s : DescSet) (i : ℕ) (these : List Spot) : Type 0 where
  pub spots : these ≡ spots_in s i
  pub apart : AreApart (kinds_at (described s) i) these
  pub few : length these ≤ MOST_ITEMS

-- its image has this number of bytes
pub record AreBytes (s : DescSet) (i count : ℕ) : Type 0 where
  pub bytes : count ≡ bytes_of (kinds_at (described s) i)
  pub bound : count ≤ MOST_BYTES

-- the tables of device i: its own, and then each subsection's
abbrev pub AreTablesOf : DescSet → ℕ → List Table → Type 0
AreTablesOf s i tables = AreTables (sizes_of (described s)) (device_fields (device_in s i)) tables

-- ---- parts

-- the set describes this part
abbrev pub DescribesPart : DescSet → Part → Type 0
DescribesPart s p = HasPart (described s) p

-- the description of part p
abbrev pub desc_in : DescSet → Part → Desc
desc_in s p = desc_at (described s) p

-- its first cell among the cells of its device
abbrev pub first_cell_in : DescSet → Part → ℕ
first_cell_in s p = first_cell (described s) p

-- the number of cells of its fields
abbrev pub own_count_in : DescSet → Part → ℕ
own_count_in s p = own_cell_count (described s) (desc_in s p)

-- the numbers of its fields, if its cells begin at a place
abbrev pub own_numbers_in : DescSet → Part → ℕ → List ℤ → ℕ → ℕ
own_numbers_in s p base numbers = own_numbers (described s) p numbers base

-- the table of part p
abbrev pub IsTableOf : DescSet → Part → Table → Type 0
IsTableOf s p table = IsTable (sizes_of (described s)) (desc_in s p).fields table

-- the scope of part p, whose cells begin at a place
abbrev pub IsScopeOf : DescSet → Part → ℕ → Scope → Type 0
IsScopeOf s p base scope = IsScope (described s) (desc_in s p) base scope

-- the set describes this part, whose cells are among a few numbers
pub record CanAsk (s : DescSet) (p : Part) (base : ℕ) (numbers : List ℤ) : Type 0 where
  pub part : DescribesPart s p
  pub few : length numbers ≤ MOST_ITEMS
  pub own : HasCells (described s) p numbers base

-- whether all validations of part p hold at version v
abbrev pub rules_hold_in : DescSet → Part → ℕ → ℕ → List ℤ → Bool
rules_hold_in s p base v numbers = all_hold (desc_in s p).validate v (own_numbers_in s p base numbers)

-- the set describes this part. The test names only single numbers of it, and their cells are among a
-- few numbers
pub record CanTest (s : DescSet) (p : Part) (base : ℕ) (t : Formula) (numbers : List ℤ) : Type 0 where
  pub part : DescribesPart s p
  pub names : names_well (is_number_in (desc_in s p).fields) nobody t ≡ true
  pub few : length numbers ≤ MOST_ITEMS
  pub own : HasCells (described s) p numbers base

-- whether such a test holds at version v
abbrev pub own_truth_in : DescSet → Part → ℕ → Formula → ℕ → List ℤ → Bool
own_truth_in s p base t v numbers = truth t v (own_numbers_in s p base numbers) no_parent

-- the set describes this part. The test names only single numbers of it, and for a subsection of its
-- device; their cells are among a few numbers
pub record CanEval (s : DescSet) (p : Part) (base : ℕ) (t : Formula) (numbers : List ℤ) : Type 0 where
  pub part : DescribesPart s p
  pub placed : is_placed (described s) p t ≡ true
  pub few : length numbers ≤ MOST_ITEMS
  pub own : base + own_count_in s p ≤ length numbers
  pub parent : HasParentCells (described s) p (length numbers)

-- whether a test of part p holds at version v
abbrev pub truth_in : DescSet → Part → ℕ → Formula → ℕ → List ℤ → Bool
truth_in s p base t v numbers =
    truth t v (numbers_of (struct_cells (described s)) (desc_in s p) numbers base) (parent_of (described s) p numbers)

-- ---- fields

-- these are the fields of part p with their tables
pub record AreFieldsOf (s : DescSet) (p : Part) (f : PartFields) : Type 0 where
  pub fields : map field_of f.fields.now ≡ (desc_in s p).fields
  pub starts : AreStarts (sizes_of (described s)) (desc_in s p).fields f.starts.now
  pub mosts : AreLeast (desc_in s p).fields f.mosts.now

-- the set describes field k of part p
pub record DescribesField (s : DescSet) (p : Part) (k : ℕ) : Type 0 where
  pub part : DescribesPart s p
  pub field : k < length (desc_in s p).fields

-- field k of part p
abbrev pub field_in : DescSet → Part → ℕ → Field
field_in s p k = field_at (described s) p k

-- the number of cells of one element of an item
abbrev pub item_size_in : DescSet → Item → ℕ
item_size_in s item = item_size (struct_cells (described s)) item

-- the number of cells of field k
abbrev pub field_size_in : DescSet → Part → ℕ → ℕ
field_size_in s p k = capacity_of (field_in s p k).count * item_size_in s (field_in s p k).item

-- its first cell, if those of the part begin at a place
abbrev pub field_start_in : DescSet → Part → ℕ → ℕ → ℕ
field_start_in s p base k = field_start (described s) p base k

-- the set describes field k of this part, whose cells are among a few numbers
pub record CanAskField (s : DescSet) (p : Part) (base k : ℕ) (numbers : List ℤ) : Type 0 where
  pub part : DescribesPart s p
  pub field : k < length (desc_in s p).fields
  pub few : length numbers ≤ MOST_ITEMS
  pub own : HasCells (described s) p numbers base

-- f is a field of this part, whose cells are among a few numbers
pub record CanAskOf (s : DescSet) (p : Part) (base : ℕ) (f : Field) (numbers : List ℤ) : Type 0 where
  pub number : ℕ
  pub is : f ≡ field_in s p number
  pub ask : CanAskField s p base number numbers

-- whether field f of part p is present at version v
abbrev pub is_present_in : DescSet → Part → ℕ → Field → ℕ → List ℤ → Bool
is_present_in s p base f v numbers = is_there f.test f.since v (own_numbers_in s p base numbers) no_parent

-- the number of its elements in the bytes, if it is present
abbrev pub count_in : DescSet → Part → ℕ → Field → List ℤ → ℕ
count_in s p base f numbers = elements_of f.count (own_numbers_in s p base numbers)

-- whether field k is present at version v
abbrev pub is_there_in : DescSet → Part → ℕ → ℕ → ℕ → List ℤ → Bool
is_there_in s p base k v numbers = is_present_in s p base (field_in s p k) v numbers

-- the number of its elements in the bytes, if it is present
abbrev pub elements_in : DescSet → Part → ℕ → ℕ → List ℤ → ℕ
elements_in s p base k numbers = count_in s p base (field_in s p k) numbers

-- ---- subsections

-- the set describes subsection j of device i, whose cells are all among the numbers
pub record DescribesSub (s : DescSet) (i j : ℕ) (numbers : List ℤ) : Type 0 where
  pub part : DescribesPart s (parts.Sub i j)
  pub cells : length (device_cells_in s i) ≤ length numbers

-- whether subsection j of device i is needed
abbrev pub is_needed_in : DescSet → ℕ → ℕ → List ℤ → Bool
is_needed_in s i j numbers = needed_at (described s) i j numbers
