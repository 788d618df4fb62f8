-- The form in which an older set keeps the numbers of a newer device. It differs only for a serial port whose set
-- has no rings: there the FIFOs are in counted arrays.
use Rattle.std.specs.Prelude.{◌≡◌, ℕ, ◌<◌, Bool, ◌&&◌, ◌==◌, not, if◌then◌else◌, List, length, get_or, ℤ, pos, codes}
use Rattle.std.specs.List.{list_any}
use Rattle.std.specs.Str.{bytes_eq}
use Rattle.vms_spec.specs.Sets.{Sub, Device, Set}
use Rattle.vms_kinds.specs.Codes.{InRange}
use Rattle.vms_kinds.specs.declared.Kind.TheVariants.{U8}
use Rattle.vms_image.specs.Typed.{Typed}
use Rattle.dev_base.specs.declared.limits.TheConstants.{NEWEST}
use Rattle.dev_serial.specs.Cells.{IsPortCells, kinds as port_kinds}
use Rattle.dev_serial.specs.Recast.{recast_cells}

-- The serial port, by name and instance.
abbrev pub is_port : Device → Bool
is_port d = bytes_eq d.desc.name (codes "serial") && (d.instance == 0)

-- The subsection of the port's rings, by name.
abbrev pub is_ring : Sub → Bool
is_ring s = bytes_eq s.desc.name (codes "serial/ring")

-- The device has a subsection of rings.
abbrev pub has_rings : Device → Bool
has_rings d = list_any is_ring d.subs

-- The device is the port and has no rings.
abbrev pub wants : Device → Bool
wants d = is_port d && not (has_rings d)

-- The set has the port, and no rings for it.
abbrev pub wants_arrays : Set → Bool
wants_arrays to = list_any wants to.devices

-- The numbers of a device of the newest set, in the form of the older set.
abbrev pub recast : Set → Device → List ℤ → List ℤ
recast to e numbers = if is_port e && wants_arrays to then recast_cells numbers else numbers

-- The image is one of the newest set's port, and the source has a port's numbers.
pub record CanRecast (source target : Typed) : Type 0 where
  pub kinds : target.kinds ≡ port_kinds NEWEST
  pub long : length target.numbers ≡ length target.kinds
  pub cells : IsPortCells source.numbers

-- One number for each cell of the image, of its kind.
pub record AreCellsOf (image : Typed) (cells : List ℤ) : Type 0 where
  pub long : length cells ≡ length image.numbers
  pub in_range : (c : ℕ) → c < length cells → InRange (get_or image.kinds c U8) (get_or cells c (pos 0))

-- One number for each cell of the image. That of cell c, which it has, is of the cell's kind.
pub record IsCellOf (image : Typed) (cells : List ℤ) (c : ℕ) : Type 0 where
  pub long : length cells ≡ length image.numbers
  pub cell : c < length cells
  pub in_range : InRange (get_or image.kinds c U8) (get_or cells c (pos 0))
