-- The stream of an older set for the images of a newer one. See docs/compatibility.md, "Going back to an older
-- program".
use Rattle.std.specs.Prelude.{◌≡◌, ℕ, List, [], ◌∷◌, length, get_or, Option, Some, ℤ}
use Rattle.std.specs.List.{slice_get}
use Rattle.vms_spec.specs.Sets.{Device, Set}
use Rattle.vms_spec.specs.Images.{Image}
use Rattle.vms_spec.specs.Lookup.{find_device}
use Rattle.vms_spec.specs.Streams.{written}
use Rattle.vms_check.specs.Carrying.{carried}
use Rattle.vms_convert.specs.Back.{IsBack}
use Rattle.vms_convert.specs.Lost.{numbers_in, KeepsAll}
use Rattle.vms_check.specs.Partners.{device_partners}
use Rattle.vms_convert.specs.Recast.{recast}

-- The recast numbers of each device, in the newer set's order.
abbrev pub recast_each : Set → List Device → List (List ℤ) → List (List ℤ)
recast_each to (e ∷ devices) (numbers ∷ lists) = recast to e numbers ∷ recast_each to devices lists
recast_each to devices lists = []

-- Device i of the older set, and device k of the newer set with the same name and instance.
pub record IsPairAt (to new : Set) (i k : ℕ) (d e : Device) : Type 0 where
  pub in_old : slice_get to.devices i ≡ Some d
  pub found : find_device 0 new.devices d.desc.name d.instance ≡ Some k
  pub in_new : slice_get new.devices k ≡ Some e

-- An image of each device of the older set, in its order, that comes back for these numbers of the newer devices.
pub record AreBack (to new : Set) (wanted : List (List ℤ)) (backs : List Image) : Type 0 where
  pub one_each : length backs ≡ length to.devices
  pub each : (i k : ℕ) (d e : Device) (image : Image) → IsPairAt to new i k d e → slice_get backs i ≡ Some image → IsBack to d (device_partners to new d e) (get_or wanted k []) image

-- The stream of a machine and images, if nothing is lost. `describe` is the description of images of the older set.
pub record IsConverted (to new : Set) (describe : List Image → List ℕ) (machine : Option (List ℕ)) (images : List Image) (bytes : List ℕ) : Type 0 where
  pub backs : List Image
  pub back : AreBack to new (recast_each to new.devices (numbers_in images)) backs
  pub keeps : KeepsAll to new machine (recast_each to new.devices (numbers_in images)) (numbers_in (carried to new backs)) backs
  pub is : bytes ≡ written to machine backs (Some (describe backs))
