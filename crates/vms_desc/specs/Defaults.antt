-- The defaults of cells: of what they are made, and where they are put.
use Rattle.std.specs.Prelude.{◌≡◌, ℕ, ◌<◌, ◌≤◌, true, List, length, get_or, replicate, ℤ, pos}
use Rattle.vms_kinds.specs.Codes.{InRange}
use Rattle.vms_kinds.specs.declared.Kind.TheVariants.{U8}
use Rattle.vms_spec.specs.declared.TheConstants.{MOST_ITEMS}
use Rattle.vms_spec.specs.Heads.{FitsHeads}
use Rattle.vms_parts.specs.Views.{set_of}
use Rattle.vms_parts.specs.declared.types.Parts.{Parts}
use Rattle.vms_spots.specs.Spots.{Held}
use Rattle.vms_desc.specs.Formed.{is_well_formed}
use Rattle.vms_desc.specs.declared.forms.Forms.{Forms}

-- the parts are well formed, and their numbers fit the heads of sections
pub record AreFormed (parts : Parts) : Type 0 where
  pub well : is_well_formed (set_of parts) ≡ true
  pub heads : FitsHeads (set_of parts)

-- as many defaults as kinds, and few; each in the range of its kind
pub record FitKinds (forms : Forms) : Type 0 where
  pub few : length forms.kinds.items ≤ MOST_ITEMS
  pub long : length forms.defaults.items ≡ length forms.kinds.items
  pub range : (k : ℕ) → k < length forms.kinds.items → InRange (get_or forms.kinds.items k U8) (get_or forms.defaults.items k (pos 0))

-- as many cells as defaults, and few; each is 0, and its default is in the range of its kind
pub record CanPutAll (cells : Held) (defaults : List ℤ) : Type 0 where
  pub few : length defaults ≤ MOST_ITEMS
  pub zero : cells.numbers ≡ replicate (length defaults) (pos 0)
  pub range : (k : ℕ) → k < length defaults → InRange (get_or cells.kinds k U8) (get_or defaults k (pos 0))

-- cell k is there, and is 0; its default is in the range of its kind
pub record CanPut (cells : Held) (k : ℕ) (default : ℤ) : Type 0 where
  pub cell : k < length cells.numbers
  pub zero : get_or cells.numbers k (pos 0) ≡ pos 0
  pub range : InRange (get_or cells.kinds k U8) default
