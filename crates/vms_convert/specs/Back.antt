-- The image of an older set that the numbers of a newer device become. Paired cells that are in the bytes take
-- their partners' numbers. Subsections are present if these numbers need them.
use Rattle.std.specs.Prelude.{◌≡◌, ℕ, ◌<◌, Bool, true, if◌then◌else◌, List, length, get_or, map, Option, Some, None, ℤ, pos}
use Rattle.vms_spec.specs.Numbers.{exceeds}
use Rattle.vms_spec.specs.Sets.{Sub, Device, Set}
use Rattle.vms_spec.specs.Layout.{Cell, no_cell, device_cells}
use Rattle.vms_spec.specs.Images.{Image, image_slots, has_cell, own_cells}
use Rattle.vms_spec.specs.Streams.{is_needed}
use Rattle.dev_images.specs.Images.{bare, image_of}
use Rattle.vms_check_laws.specs.SubCells.{IsCellOf}

-- The image of these numbers in which each subsection is present.
abbrev pub whole : Device → List ℤ → Image
whole d numbers = record (bare d numbers) { came = map (λ s. Some s.desc.version) d.subs }

-- `taken numbers cell there partner` is the number that `cell` takes: if it is in the bytes, its partner's number,
-- unless that is above the cell's capacity; else its default.
abbrev pub taken : List ℤ → Cell → Bool → Option ℕ → ℤ
taken numbers cell true (Some k) = let z = get_or numbers k (pos 0) in if exceeds cell.capacities z then cell.default else z
taken numbers cell _ _ = cell.default

-- Each cell takes its number, where these very numbers determine which cells are in the bytes. Tests and counts
-- name only earlier cells, so there is one such list.
pub record AreTaken (to : Set) (d : Device) (partners : List (Option ℕ)) (numbers now : List ℤ) : Type 0 where
  pub long : length now ≡ length (device_cells to d)
  pub each : (c : ℕ) → c < length (device_cells to d)
      → get_or now c (pos 0) ≡ taken numbers (get_or (device_cells to d) c no_cell) (has_cell (image_slots to d (whole d now)) c) (get_or partners c None)

-- The cells of each subsection that isn't needed are at their defaults; all others are unchanged.
pub record AreSettled (to : Set) (d : Device) (now numbers : List ℤ) : Type 0 where
  pub long : length numbers ≡ length now
  pub own : (c : ℕ) → c < own_cells to d → get_or numbers c (pos 0) ≡ get_or now c (pos 0)
  pub subs : (j : ℕ) (s : Sub) (c : ℕ) → IsCellOf to d j s c
      → get_or numbers c (pos 0) ≡ (if is_needed to d (whole d now) s j then get_or now c (pos 0) else (get_or (device_cells to d) c no_cell).default)

-- The image that comes back: the cells are taken and settled, and the subsections that are needed then are present.
pub record IsBack (to : Set) (d : Device) (partners : List (Option ℕ)) (numbers : List ℤ) (image : Image) : Type 0 where
  pub now : List ℤ
  pub are_taken : AreTaken to d partners numbers now
  pub settled : AreSettled to d now image.numbers
  pub is : image ≡ image_of to d image.numbers
