-- What one device of the newer set becomes.
use Rattle.std.specs.Prelude.{◌≡◌, ℕ, List, Option, Some, None, ℤ}
use Rattle.vms_spec.specs.Sets.{Set}
use Rattle.vms_desc.specs.Described.{device_at}
use Rattle.vms_image.specs.Typed.{IsImageOf, Typed, state_of}
use Rattle.vms_check.specs.Carrying.{carried_device}
use Rattle.vms_check.specs.Partners.{device_partners}
use Rattle.vms_convert.specs.Back.{IsBack}
use Rattle.vms_convert.specs.Lost.{DifferAt}

-- The first cell at which numbers differ, or none.
abbrev pub FirstDifference : List ℤ → List ℤ → Option ℕ → Type 0
FirstDifference wanted there None = wanted ≡ there
FirstDifference wanted there (Some c) = DifferAt wanted there c

-- `image` is what the numbers of the newer device k become for device i of the older set, and `cell` is the first
-- one that it doesn't carry.
pub record IsReturned (to new : Set) (i k : ℕ) (numbers : List ℤ) (image : Typed) (cell : Option ℕ) : Type 0 where
  pub of : IsImageOf to i image
  pub back : IsBack to (device_at to i) (device_partners to new (device_at to i) (device_at new k)) numbers (state_of image)
  pub lost : FirstDifference numbers (carried_device to new (device_at to i) (device_at new k) (state_of image)).numbers cell
