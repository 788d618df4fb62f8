-- What is carried, cell by cell.
use Rattle.std.specs.Prelude.{◌≡◌, ℕ, ◌<◌, true, false, List, length, get_or, Some, ℤ, pos}
use Rattle.std.specs.List.{slice_get}
use Rattle.vms_spec.specs.Sets.{Sub, Device, Set}
use Rattle.vms_spec.specs.Layout.{no_cell, device_cells}
use Rattle.vms_spec.specs.Images.{Image, image_slots, has_cell}
use Rattle.vms_check.specs.Partners.{device_partners}

-- A cell of the newer device has the number of the older cell that is paired with it, if that is in the bytes, and
-- else its default.
pub record IsCarried (old new : Set) (d e : Device) (image : Image) (numbers : List ℤ) : Type 0 where
  pub long : length numbers ≡ length (device_cells new e)
  pub taken : (c k : ℕ) → slice_get (device_partners old new d e) c ≡ Some (Some k) → has_cell (image_slots old d image) c ≡ true → get_or numbers k (pos 0) ≡ get_or image.numbers c (pos 0)
  pub other : (k : ℕ) → k < length (device_cells new e) → ((c : ℕ) → slice_get (device_partners old new d e) c ≡ Some (Some k) → has_cell (image_slots old d image) c ≡ false)
      → get_or numbers k (pos 0) ≡ (get_or (device_cells new e) k no_cell).default

-- An image at the versions that its set writes, with any of its subsections present.
pub record IsAtVersions (d : Device) (image : Image) : Type 0 where
  pub version : image.version ≡ d.desc.version
  pub subs : (j : ℕ) (s : Sub) (v : ℕ) → slice_get d.subs j ≡ Some s → slice_get image.came j ≡ Some (Some v) → v ≡ s.desc.version
