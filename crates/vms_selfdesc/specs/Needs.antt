-- What the calls of this crate require.
use Rattle.std.specs.Prelude.{◌≡◌, ℕ, suc, ◌+◌, ◌*◌, ◌≤◌, true, ◌&&◌, List, length, ℤ, pos, negsuc, int_le, int_lt, string_bytes}
use Rattle.vms_kinds.specs.declared.Item.{Item}
use Rattle.vms_kinds.specs.declared.Item.TheVariants.{Struct}
use Rattle.vms_spec.specs.declared.TheConstants.{MOST_ITEMS}
use Rattle.vms_spec.specs.Sets.{Set, Field}
use Rattle.vms_spec.specs.Rules.{uses_below, defaults_well}
use Rattle.vms_spec.specs.Layout.{item_size, struct_cells}
use Rattle.vms_spec.specs.declared.Part.{Part}
use Rattle.vms_spec.specs.declared.Part.TheVariants as parts
use Rattle.vms_desc.specs.Asks.{HasCells}
use Rattle.vms_desc.specs.Parts.{HasPart}
use Rattle.vms_selfdesc.specs.declared.path.Path.{Path}

-- A number of 64 bits, with or without a sign.
abbrev pub IsWide : ℤ → Type 0
IsWide z = (int_le (negsuc 0x7fff_ffff_ffff_ffff) z && int_lt z (pos 0x1_0000_0000_0000_0000)) ≡ true

-- The cells of a part, or of one element of a structure, are among the numbers from a cell on.
pub record HasPlace (set : Set) (part : Part) (cell : ℕ) (numbers : List ℤ) : Type 0 where
  pub has : HasPart set part
  pub few : length numbers ≤ MOST_ITEMS
  pub room : HasCells set part numbers cell

-- The cells of n elements of a field are among the numbers from a cell on.
pub record HasElements (set : Set) (f : Field) (cell n : ℕ) (numbers : List ℤ) : Type 0 where
  pub reaches : uses_below (length set.structs) f.item ≡ true
  pub default : defaults_well f.item f.default ≡ true
  pub few : length numbers ≤ MOST_ITEMS
  pub small : item_size (struct_cells set) f.item ≤ MOST_ITEMS
  pub room : cell + n * item_size (struct_cells set) f.item ≤ length numbers

-- ---- the length of a path

-- The most structures that can be nested below an item, because structure j uses only those before it.
abbrev pub item_levels : Item → ℕ
item_levels (Struct j) = suc j
item_levels item = 0

-- The most that can be nested below the fields of a part.
abbrev pub part_levels : Set → Part → ℕ
part_levels set (parts.Struct j) = j
part_levels set part = length set.structs

-- There is room in the path for these bytes and then for 45 at each level: a dot, a name of 32 bytes and an index of 12.
abbrev pub CanGrow : Path → ℕ → ℕ → Type 0
CanGrow path more levels = length (string_bytes path.text) + more + 45 * levels ≤ 2924
