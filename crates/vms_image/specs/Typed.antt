-- An image in memory: the state that a section carries, and the kind of each cell.
use Rattle.std.specs.Prelude.{◌≡◌, ℕ, ◌<◌, ◌≤◌, List, length, Option, Some, ℤ}
use Rattle.std.specs.List.{slice_get}
use Rattle.vms_kinds.specs.declared.Kind.{Kind}
use Rattle.vms_spec.specs.declared.TheConstants.{MOST_ITEMS}
use Rattle.vms_spec.specs.Sets.{Set}
use Rattle.vms_spec.specs.Layout.{device_cells}
use Rattle.vms_spec.specs.Images.{Image, default_image}
use Rattle.vms_parts.specs.Devices.{device_at}
use Rattle.vms_desc.specs.Spots.{kinds_at}

-- a state, with the kinds of its cells
pub record Typed : Type 0 where
  pub version : ℕ
  pub came : List (Option ℕ)
  pub numbers : List ℤ
  pub kinds : List Kind

-- the state alone
abbrev pub state_of : Typed → Image
state_of image = record { version = image.version; came = image.came; numbers = image.numbers }

-- a state with the kinds of its cells
abbrev pub typed : List Kind → Image → Typed
typed kinds image = record { version = image.version; came = image.came; numbers = image.numbers; kinds = kinds }

-- the default image of device k: at the set's version, with no subsection, and with all defaults
abbrev pub default_at : Set → ℕ → Typed
default_at set device = typed (kinds_at set device) (default_image set (device_at set device))

-- a state of device i
pub record IsOfDevice (set : Set) (i : ℕ) (image : Image) : Type 0 where
  pub is_device : i < length set.devices
  pub cells : length image.numbers ≡ length (device_cells set (device_at set i))
  pub subs : length image.came ≡ length (device_at set i).subs
  pub few : length image.numbers ≤ MOST_ITEMS

-- an image of a device: an entry for each subsection, and cells of the device's kinds
pub record IsImageOf (set : Set) (device : ℕ) (image : Typed) : Type 0 where
  pub subs : length image.came ≡ length (device_at set device).subs
  pub cells : length image.numbers ≡ length (device_cells set (device_at set device))
  pub kinds : image.kinds ≡ kinds_at set device

-- one image for each device of a set, in its order
pub record AreImagesOf (set : Set) (images : List Typed) : Type 0 where
  pub one_each : length images ≡ length set.devices
  pub each : (k : ℕ) (image : Typed) → slice_get images k ≡ Some image → IsImageOf set k image
