-- What all devices of the newer set become.
use Rattle.std.specs.Prelude.{◌≡◌, ℕ, ◌<◌, true, nat_lt, if◌then◌else◌, List, [], length, get_or, map, Option, Some, None, ℤ}
use Rattle.std.specs.List.{slice_get}
use Rattle.vms_spec.specs.Sets.{Set}
use Rattle.vms_spec.specs.Images.{Image}
use Rattle.vms_spec.specs.Layout.{device_cells}
use Rattle.vms_desc.specs.Described.{device_at}
use Rattle.vms_desc.specs.Spots.{kinds_at}
use Rattle.vms_image.specs.Typed.{IsImageOf, Typed, state_of}
use Rattle.vms_check.specs.Carrying.{carried_device, no_image}
use Rattle.vms_check.specs.Partners.{device_partners}
use Rattle.vms_check_laws.specs.Pairing.{AreOfKinds}
use Rattle.dev_base.specs.declared.limits.TheConstants.{NEWEST}
use Rattle.dev_serial.specs.Cells.{IsPortCells, kinds as port_kinds}
use Rattle.vms_convert.specs.Back.{IsBack}
use Rattle.vms_convert.specs.Converted.{IsPairAt}
use Rattle.vms_convert.specs.Lost.{DifferAt}
use Rattle.vms_convert.specs.Recast.{is_port, recast}
use Rattle.vms_convert.specs.declared.returns.LostCell.{LostCell}

-- Device k of the newer set may be brought to the older set: its recast numbers are of its kinds, and a port has a
-- port's cells.
pub record IsRecastFor (to new : Set) (k : ℕ) (numbers : List ℤ) : Type 0 where
  pub inside : k < length new.devices
  pub kinds : AreOfKinds (device_cells new (device_at new k)) (recast to (device_at new k) numbers)
  pub port : is_port (device_at new k) ≡ true → (kinds_at new k ≡ port_kinds NEWEST) × IsPortCells numbers

-- The earlier of a known cell and one of device k.
abbrev pub IsEarlier : Option LostCell → ℕ → Option ℕ → Option LostCell → Type 0
IsEarlier known k None r = r ≡ known
IsEarlier None k (Some c) r = r ≡ Some (record { device = k; cell = c })
IsEarlier (Some l) k (Some c) r = r ≡ (if nat_lt l.device k then Some l else Some (record { device = k; cell = c }))

-- The numbers of device k of the newer set that the older set's image i carries.
abbrev pub carried_of : (to new : Set) → List Image → ℕ → ℕ → List ℤ
carried_of to new backs i k = (carried_device to new (device_at to i) (device_at new k) (get_or backs i (no_image to new))).numbers

-- Devices i and k have one name and instance.
abbrev pub ArePaired : (to new : Set) → ℕ → ℕ → Type 0
ArePaired to new i k = IsPairAt to new i k (device_at to i) (device_at new k)

-- The first cell, in the newer set's order, that the older set's first n devices don't carry.
pub record IsLostCell (to new : Set) (wanted : List (List ℤ)) (n : ℕ) (backs : List Image) (l : LostCell) : Type 0 where
  pub i : ℕ
  pub inside : i < n
  pub pair : ArePaired to new i l.device
  pub differs : DifferAt (get_or wanted l.device []) (carried_of to new backs i l.device) l.cell
  pub before : (i' k : ℕ) → i' < n → k < l.device → ArePaired to new i' k → get_or wanted k [] ≡ carried_of to new backs i' k

-- `wanted` are the numbers of each device of the newer set. The older set's first n devices carry them all, or this
-- is the first cell that they don't carry, in the newer set's order.
abbrev pub IsFirstLost : (to new : Set) → List (List ℤ) → ℕ → List Image → Option LostCell → Type 0
IsFirstLost to new wanted n backs None = (i k : ℕ) → i < n → ArePaired to new i k → get_or wanted k [] ≡ carried_of to new backs i k
IsFirstLost to new wanted n backs (Some l) = IsLostCell to new wanted n backs l

-- An image of each of the older set's first n devices, in its order, that comes back for the newer ones' numbers;
-- and the first cell that isn't carried.
pub record AreReturnedTo (to new : Set) (wanted : List (List ℤ)) (n : ℕ) (images : List Typed) (lost : Option LostCell) : Type 0 where
  pub count : length images ≡ n
  pub of : (i : ℕ) (image : Typed) → slice_get images i ≡ Some image → IsImageOf to i image
  pub back : (i k : ℕ) (image : Image) → ArePaired to new i k → slice_get (map state_of images) i ≡ Some image
      → IsBack to (device_at to i) (device_partners to new (device_at to i) (device_at new k)) (get_or wanted k []) image
  pub first_lost : IsFirstLost to new wanted n (map state_of images) lost

-- The same for all devices.
abbrev pub AreReturned : (to new : Set) → List (List ℤ) → List Typed → Option LostCell → Type 0
AreReturned to new wanted images lost = AreReturnedTo to new wanted (length to.devices) images lost
