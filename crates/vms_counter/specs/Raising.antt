-- What the code's raised numbers mean.
use Rattle.std.specs.Prelude.{◌≡◌, ℕ, ◌<◌, length, ◌==◌, if◌then◌else◌, List, [], ◌∷◌, Option, Some, None, IfSome, ℤ, get_or}
use Rattle.vms_kinds.specs.Codes.{InRange}
use Rattle.vms_kinds.specs.declared.Kind.TheVariants.{U8}
use Rattle.vms_spec.specs.declared.Count.{Count}
use Rattle.vms_spec.specs.declared.Count.TheVariants.{Counted}
use Rattle.vms_spec.specs.Sets.{Set}
use Rattle.vms_spec.specs.Images.{Image}
use Rattle.vms_parts.specs.Devices.{device_at}
use Rattle.vms_image.specs.Typed.{Typed, IsImageOf, state_of}
use Rattle.vms_counter_laws.specs.Candidates as candidates
use Rattle.vms_counter.specs.declared.raising.Excess.{Excess}

-- The field and the capacity of the specification, if there are any.
abbrev pub map_excess : Option Excess → Option candidates.Excess
map_excess None = None
map_excess (Some x) = Some (record { field = x.field; room = x.room })

-- The capacity of a count, if it counts by field i.
abbrev pub counted_here : ℕ → Count → List ℕ
counted_here i (Counted by most) = if by == i then most ∷ [] else []
counted_here i _ = []

-- The field and the capacity of the specification.
abbrev pub as_excess : Excess → candidates.Excess
as_excess x = record { field = x.field; room = x.room }

-- The image of the specification, if there is one.
abbrev pub image_state : Option Typed → Option Image
image_state None = None
image_state (Some image) = Some (state_of image)

-- The field and the capacity, if there are any, make these images the candidate of device k.
abbrev pub IsExcess : Set → ℕ → Option (List Image) → Option Excess → Type 0
IsExcess set k images None = images ≡ None
IsExcess set k images (Some x) =
    (k < length set.devices) × (images ≡ candidates.with_image (candidates.default_images set) k (candidates.raised_image set k (device_at set k) (as_excess x)))

-- The image is this one of the specification, of device k, or there is none.
pub record IsState (set : Set) (k : ℕ) (wanted : Option Image) (image : Option Typed) : Type 0 where
  pub state : image_state image ≡ wanted
  pub of : IfSome image (IsImageOf set k)

-- The image has this cell, and the number is in the range of the cell's kind.
pub record Fits (image : Typed) (cell : ℕ) (value : ℤ) : Type 0 where
  pub inside : cell < length image.numbers
  pub range : InRange (get_or image.kinds cell U8) value
