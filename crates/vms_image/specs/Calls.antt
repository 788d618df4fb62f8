-- What the calls on an image need and return, by the set that they borrow.
use Rattle.std.specs.Prelude.{◌≡◌, ℕ, length, get_or, ℤ, pos}
use Rattle.vms_kinds.specs.Codes.{InRange}
use Rattle.vms_kinds.specs.declared.Kind.TheVariants.{U8}
use Rattle.vms_spec.specs.Layout.{device_cells}
use Rattle.vms_desc.specs.Calls.{DescribesDevice}
use Rattle.vms_desc.specs.Described.{described, device_at}
use Rattle.vms_desc.specs.Spots.{kinds_at}
use Rattle.vms_desc.specs.declared.set.DescSet.{DescSet}
use Rattle.vms_image.specs.Typed.{IsImageOf, Typed, default_at}

-- the default image of device i
abbrev pub default_in : DescSet → ℕ → Typed
default_in set i = default_at (described set) i

-- an image of device i
abbrev pub IsOf : DescSet → ℕ → Typed → Type 0
IsOf set i image = IsImageOf (described set) i image

-- the set describes device i, and this is an image of it
pub record CanReset (set : DescSet) (i : ℕ) (image : Typed) : Type 0 where
  pub is_device : DescribesDevice set i
  pub subs : length image.came ≡ length (device_at (described set) i).subs
  pub cells : length image.numbers ≡ length (device_cells (described set) (device_at (described set) i))
  pub kinds : image.kinds ≡ kinds_at (described set) i

-- the number of cell k, which is in the range of the cell's kind
pub record IsNumberOf (image : Typed) (k : ℕ) (z : ℤ) : Type 0 where
  pub number : z ≡ get_or image.numbers k (pos 0)
  pub range : InRange (get_or image.kinds k U8) z
