-- Laws of paired and carried cells, each as a statement.
use Rattle.std.specs.Prelude.{◌≡◌, ℕ, List, Some, ℤ}
use Rattle.std.specs.List.{slice_get}
use Rattle.vms_spec.specs.Sets.{Device, Set}
use Rattle.vms_spec.specs.Layout.{device_cells}
use Rattle.vms_spec.specs.Images.{Image}
use Rattle.vms_spec.specs.WellFormed.{WellFormed}
use Rattle.vms_check.specs.Carrying.{carried_device}
use Rattle.vms_check.specs.Partners.{device_partners}
use Rattle.vms_check_laws.specs.Carried.{IsCarried, IsAtVersions}
use Rattle.vms_check_laws.specs.Pairing.{ArePartners}

-- Each cell of an older device has at most one partner, of its kind, and no two have the same.
abbrev pub PartnersLaw : Type 0
PartnersLaw = (old new : Set) → WellFormed old → WellFormed new → (i : ℕ) (d e : Device) → slice_get old.devices i ≡ Some d
    → ArePartners (device_cells old d) (device_cells new e) (device_partners old new d e)

-- What is carried, cell by cell: numbers of which this is true are those that a comparison of sets carries.
abbrev pub CarriedLaw : Type 0
CarriedLaw = (old new : Set) → WellFormed old → WellFormed new → (i k : ℕ) (d e : Device) → slice_get old.devices i ≡ Some d → slice_get new.devices k ≡ Some e
    → (image : Image) → IsAtVersions d image → (numbers : List ℤ) → IsCarried old new d e image numbers → numbers ≡ (carried_device old new d e image).numbers
