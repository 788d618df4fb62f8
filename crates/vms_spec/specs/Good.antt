-- What the laws of streams require of a set. It follows from well-formedness and from the integer
-- types of the parts.
use Rattle.std.specs.Prelude.{◌≡◌, ℕ, ◌^◌, ◌<◌, List, [], ◌∷◌, length, get_or, Some}
use Rattle.std.specs.List.{AllByRecursion, slice_get}
use Rattle.vms_kinds.specs.declared.Item.{Item}
use Rattle.vms_kinds.specs.declared.Item.TheVariants.{Equal}
use Rattle.vms_kinds.specs.Codes.{InRange}
use Rattle.vms_spec.specs.Sets.{Field, Device, Sub, Set}
use Rattle.vms_spec.specs.Layout.{Cell, no_cell, no_desc, device_cells}
use Rattle.vms_spec.specs.Images.{FitsCell}
use Rattle.vms_spec.specs.Lookup.{find_device, find_sub}
use Rattle.vms_spec.specs.WellFormed.{WellFormed}
use Rattle.vms_spec.specs.Heads.{FitsHeads}
use Rattle.vms_spec.specs.Shipped.{shipped_sets}
use Rattle.vms_spec.specs.Sound.{IsSound, AreSound}

-- the default of each cell is in its kind's range and at most each capacity that the cell counts
abbrev pub DefaultsFit : List Cell → Type 0
DefaultsFit cells = (c : ℕ) → c < length cells → FitsCell (get_or cells c no_cell) (get_or cells c no_cell).default

-- the constant of an item, if it is one, is in its kind's range
abbrev pub ConstantFits : Item → Type 0
ConstantFits (Equal kind z) = InRange kind z
ConstantFits _ = Unit {0}

-- `ConstantsFit fields`: each constant of the fields is in its kind's range
abbrev pub ConstantsFit : List Field → Type 0
ConstantsFit [] = Unit {0}
ConstantsFit (f ∷ fs) = ConstantFits f.item × ConstantsFit fs

-- a set whose descriptions are sound, whose names are distinct, and whose numbers fit their bytes
pub record IsGood (set : Set) : Type 0 where
  -- each test and each count names a single number that is before it
  pub structs : AreSound set.structs
  pub devices : (k : ℕ) (d : Device) → slice_get set.devices k ≡ Some d → IsSound d.desc
  pub subs : (k j : ℕ) (d : Device) (s : Sub) → slice_get set.devices k ≡ Some d → slice_get d.subs j ≡ Some s → IsSound s.desc
  -- devices are distinct by name and instance, and the subsections of a device by name
  pub distinct : (k : ℕ) (d : Device) → slice_get set.devices k ≡ Some d → find_device 0 set.devices d.desc.name d.instance ≡ Some k
  pub distinct_subs : (k j : ℕ) (d : Device) (s : Sub) → slice_get set.devices k ≡ Some d → slice_get d.subs j ≡ Some s → find_sub 0 d.subs s.desc.name ≡ Some j
  -- defaults and constants are in range
  pub defaults : (k : ℕ) (d : Device) → slice_get set.devices k ≡ Some d → DefaultsFit (device_cells set d)
  pub struct_constants : (j : ℕ) → ConstantsFit (get_or set.structs j no_desc).fields
  pub constants : (k : ℕ) (d : Device) → slice_get set.devices k ≡ Some d → ConstantsFit d.desc.fields
  pub sub_constants : (k j : ℕ) (d : Device) (s : Sub) → slice_get set.devices k ≡ Some d → slice_get d.subs j ≡ Some s → ConstantsFit s.desc.fields
  -- instance ids and versions have four bytes
  pub instance : (k : ℕ) (d : Device) → slice_get set.devices k ≡ Some d → (d.instance < 2 ^ 32) × (d.desc.version < 2 ^ 32)
  pub sub_version : (k j : ℕ) (d : Device) (s : Sub) → slice_get set.devices k ≡ Some d → slice_get d.subs j ≡ Some s → s.desc.version < 2 ^ 32

-- ---- laws of sets

-- the law that a well-formed set whose numbers fit four bytes is good
abbrev pub GoodLaw : Type 0
GoodLaw = (set : Set) → WellFormed set → FitsHeads set → IsGood set

-- the premises that the laws of streams have about a set
pub record IsFit (set : Set) : Type 0 where
  pub well : WellFormed set
  pub heads : FitsHeads set

-- the law that each shipped set meets these premises
abbrev pub ShippedLaw : Type 0
ShippedLaw = AllByRecursion IsFit shipped_sets
