-- What pairing needs of a description on each side, and what is left to pair from a field on.
use Rattle.std.specs.Prelude.{◌≡◌, ℕ, ◌+◌, ◌-◌, ◌*◌, ◌<◌, ◌≤◌, true, false, List, ◌++◌, length, get_or, drop, Option}
use Rattle.vms_kinds.specs.declared.Item.{Item}
use Rattle.vms_spec.specs.Layout.{capacity_of, desc_cells, item_size, no_field, struct_cells, cells_from, field_cells}
use Rattle.vms_spec.specs.Rules.{uses_below}
use Rattle.vms_spec.specs.Sets.{AtLeast, Device, Set}
use Rattle.vms_spec.specs.declared.TheConstants.{MOST_ITEMS}
use Rattle.vms_desc.specs.Described.{described}
use Rattle.vms_desc.specs.declared.set.DescSet.{DescSet}
use Rattle.vms_check.specs.Comparing.{Entry, is_absent, present_from}
use Rattle.vms_check.specs.Partners.{Pairer, no_pairer, pairers, array_partners, item_partners, desc_partners, named_partners, partners_from}
use Rattle.vms_check.specs.Sides.{IsSide, desc_on}
use Rattle.vms_convert.specs.declared.pairing.Arrays.{Arrays}
use Rattle.vms_convert.specs.declared.pairing.Elements.{Elements}
use Rattle.vms_convert.specs.declared.pairing.Sets.{Sets}
use Rattle.vms_convert.specs.declared.pairing.Start.{Start}
use Rattle.vms_check.specs.declared.side.Side.{Side}

-- The partners of the structures of two sets.
abbrev pub table : Set → Set → List Pairer
table old new = pairers (struct_cells old) (struct_cells new) old.structs new.structs (length old.structs)

-- The partners of an item's cells.
abbrev pub item_on : Set → Set → Item → Item → ℕ → List (Option ℕ)
item_on old new a b at = item_partners (table old new) (struct_cells old) (struct_cells new) a b at

-- The partners of an array's cells.
abbrev pub array_on : Set → Set → Item → Item → ℕ → ℕ → ℕ → List (Option ℕ)
array_on old new a b n m at = array_partners (table old new) (struct_cells old) (struct_cells new) a b n m at

-- The partners of a structure's cells.
abbrev pub struct_on : Set → Set → ℕ → ℕ → ℕ → List (Option ℕ)
struct_on old new i j at = get_or (table old new) i no_pairer j at

-- The elements of field k.
abbrev pub elements_on : Side → ℕ → Elements
elements_on s k = let f = get_or (desc_on s).fields k no_field in record { item = f.item; count = capacity_of f.count }

-- The elements of a field of each side.
abbrev pub arrays_on : Side → ℕ → Side → ℕ → Arrays
arrays_on s k t l = record { sets = record { old = s.set; new = t.set }; one = elements_on s k; other = elements_on t l }

-- The partners of the elements from one on.
abbrev pub elements_left : Arrays → ℕ → ℕ → List (Option ℕ)
elements_left a i at = array_on (described a.sets.old.now) (described a.sets.new.now) a.one.item a.other.item (a.one.count - i) (a.other.count - i) at

-- The newer side's cells from that element on are within the limit.
abbrev pub HasRoom : Arrays → ℕ → ℕ → Type 0
HasRoom a i at = at + (a.other.count - i) * item_size (struct_cells (described a.sets.new.now)) a.other.item ≤ MOST_ITEMS

-- The items' structures are in their sets, and their cells are within the limit.
pub record AreArrays (a : Arrays) : Type 0 where
  pub one : uses_below (length (described a.sets.old.now).structs) a.one.item ≡ true
  pub other : uses_below (length (described a.sets.new.now).structs) a.other.item ≡ true
  pub few : a.one.count * item_size (struct_cells (described a.sets.old.now)) a.one.item ≤ MOST_ITEMS

-- One element has been paired.
pub record PairsElement (a : Arrays) (i at next : ℕ) (before after : List (Option ℕ)) : Type 0 where
  pub room : HasRoom a (i + 1) next
  pub so_far : after ++ elements_left a (i + 1) next ≡ before ++ elements_left a i at

-- The cells of the fields from one on are within the limit.
abbrev pub HasFew : Side → ℕ → Type 0
HasFew s k = length (cells_from (struct_cells (described s.set.now)) (desc_on s).fields k (drop k (desc_on s).fields)) ≤ MOST_ITEMS

-- A field of the side or its end, with its first cell.
pub record IsStart (s : Side) (a : Start) : Type 0 where
  pub inside : a.field ≤ length (desc_on s).fields
  pub room : a.cell + length (cells_from (struct_cells (described s.set.now)) (desc_on s).fields a.field (drop a.field (desc_on s).fields)) ≤ MOST_ITEMS

-- The present fields from one on.
abbrev pub entries_at : Side → Start → List Entry
entries_at s start = present_from (struct_cells (described s.set.now)) (desc_on s).fields s.version start.field start.cell (drop start.field (desc_on s).fields)

-- The first present field from there on, or the end.
pub record IsNextStart (s : Side) (a b : Start) : Type 0 where
  pub start : IsStart s b
  pub same : entries_at s b ≡ entries_at s a
  pub there : b.field < length (desc_on s).fields → is_absent s.version (get_or (desc_on s).fields b.field no_field) ≡ false

-- The start after a field.
pub record IsBehind (s : Side) (a b : Start) : Type 0 where
  pub start : IsStart s b
  pub field : b.field ≡ a.field + 1
  pub cell : b.cell ≡ a.cell + length (field_cells (struct_cells (described s.set.now)) (desc_on s).fields a.field (get_or (desc_on s).fields a.field no_field))

module _ (s t : Side) where
  -- The partners of two descriptions' cells, where the first cell of the newer one is given.
  abbrev pub partners_on : ℕ → List (Option ℕ)
  partners_on at =
      let old = described s.set.now in
      let new = described t.set.now in
      desc_partners (table old new) (struct_cells old) (struct_cells new) s.version t.version (desc_on s) (desc_on t) at

  -- The partners of the older fields from one on, with the newer ones from a start on.
  abbrev pub partners_left : ℕ → Start → List (Option ℕ)
  partners_left k start =
      let old = described s.set.now in
      let new = described t.set.now in
      partners_from (table old new) (struct_cells old) (struct_cells new) s.version 0 (drop k (desc_on s).fields) (entries_at t start)

  -- One older field has been paired.
  pub record PairsField (k : ℕ) (a b : Start) (before after : List (Option ℕ)) : Type 0 where
    pub start : IsStart t b
    pub so_far : after ++ partners_left (k + 1) b ≡ before ++ partners_left k a

-- The partners of a subsection, with the one of the same name.
abbrev pub sub_on : Side → Set → Device → List (Option ℕ)
sub_on s new e = named_partners (described s.set.now) new e (record { desc = desc_on s; needed = AtLeast 0 })

-- ---- what the calls require

-- The older side is a subsection at its own version, and device i is one of the newer set.
pub record CanPairSub (s : Side) (t : DescSet) (i : ℕ) : Type 0 where
  pub older : IsSide s
  pub version : s.version ≡ (desc_on s).version
  pub few : HasFew s 0
  pub new : i < length (described t).devices

-- A field of the side.
pub record HasField (s : Side) (k : ℕ) : Type 0 where
  pub side : IsSide s
  pub field : k < length (desc_on s).fields

-- A field of the side or its end.
pub record AtStart (s : Side) (a : Start) : Type 0 where
  pub side : IsSide s
  pub start : IsStart s a

-- A field of the side, with its first cell.
pub record AtField (s : Side) (a : Start) : Type 0 where
  pub side : IsSide s
  pub start : IsStart s a
  pub field : a.field < length (desc_on s).fields

module _ (s t : Side) where
  -- Both are sides, and the cells of both are within the limit, where the newer ones begin with `first`.
  pub record CanPair (first : ℕ) : Type 0 where
    pub old : IsSide s
    pub new : IsSide t
    pub few : HasFew s 0
    pub room : first + length (desc_cells (struct_cells (described t.set.now)) (desc_on t)) ≤ MOST_ITEMS

  -- Both are sides with these fields.
  pub record HaveFields (k l : ℕ) : Type 0 where
    pub old : IsSide s
    pub new : IsSide t
    pub number : k < length (desc_on s).fields
    pub other : l < length (desc_on t).fields

  -- Field k is one of the older side, and the newer one is at this start.
  pub record CanPairField (k : ℕ) (a : Start) : Type 0 where
    pub old : IsSide s
    pub new : IsSide t
    pub field : k < length (desc_on s).fields
    pub few : HasFew s k
    pub start : IsStart t a

  -- The same, where field k is present, and the start is at a present field or the end.
  pub record CanPairPresent (k : ℕ) (a : Start) : Type 0 where
    pub old : IsSide s
    pub new : IsSide t
    pub field : k < length (desc_on s).fields
    pub there : is_absent s.version (get_or (desc_on s).fields k no_field) ≡ false
    pub few : HasFew s k
    pub found : IsNextStart t a a

-- Element i is one of the older ones, and the newer cells from it on are within the limit.
pub record CanPairElement (a : Arrays) (i at : ℕ) : Type 0 where
  pub arrays : AreArrays a
  pub element : i < a.one.count
  pub room : HasRoom a i at

module _ (sets : Sets) where
  -- The items' structures are in their sets, and their cells are within the limit.
  pub record CanPairItems (a b : Item) (at : ℕ) : Type 0 where
    pub one : uses_below (length (described sets.old.now).structs) a ≡ true
    pub other : uses_below (length (described sets.new.now).structs) b ≡ true
    pub few : item_size (struct_cells (described sets.old.now)) a ≤ MOST_ITEMS
    pub room : at + item_size (struct_cells (described sets.new.now)) b ≤ MOST_ITEMS

  -- The partners of an item's cells.
  abbrev pub items_in : Item → Item → ℕ → List (Option ℕ)
  items_in a b at = item_on (described sets.old.now) (described sets.new.now) a b at
