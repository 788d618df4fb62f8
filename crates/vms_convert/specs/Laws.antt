-- Laws of conversion, each as a statement.
use Rattle.std.specs.Prelude.{◌≡◌, ◌⊎◌, ℕ, ◌≤◌, List, [], length, get_or, Option, Some, ℤ}
use Rattle.std.specs.List.{slice_get}
use Rattle.vms_spec.specs.Sets.{Device, Set}
use Rattle.vms_spec.specs.Layout.{device_cells}
use Rattle.vms_spec.specs.Images.{Image, IsNormal}
use Rattle.vms_desc.specs.Formed.{newest_set}
use Rattle.vms_spec.specs.Streams.{longest_text, ComeAsNeeded}
use Rattle.vms_spec.specs.WellFormed.{WellFormed}
use Rattle.vms_spec.specs.Good.{IsFit}
use Rattle.vms_check.specs.Carrying.{carried}
use Rattle.vms_check.specs.Comparing.{Compatible}
use Rattle.vms_stream.specs.StreamLaws.{IsWholeStream}
use Rattle.vms_convert.specs.Back.{IsBack}
use Rattle.vms_convert.specs.Converted.{AreBack, IsConverted, recast_each}
use Rattle.vms_convert.specs.Lost.{numbers_in, KeepsAll, Loses}
use Rattle.vms_check_laws.specs.Pairing.{AreOfKinds}
use Rattle.vms_check.specs.Partners.{device_partners}

-- At most one image comes back.
abbrev pub OneBackLaw : Type 0
OneBackLaw = (to : Set) → IsFit to → (i : ℕ) (d : Device) → slice_get to.devices i ≡ Some d → (partners : List (Option ℕ)) (numbers : List ℤ) (x y : Image)
    → IsBack to d partners numbers x → IsBack to d partners numbers y → y ≡ x

-- An image that comes back.
pub record ComesBack (to : Set) (d : Device) (partners : List (Option ℕ)) (numbers : List ℤ) : Type 0 where
  pub image : Image
  pub is_back : IsBack to d partners numbers image

-- For each device and all numbers an image comes back.
abbrev pub ComesBackLaw : Type 0
ComesBackLaw = (to : Set) → IsFit to → (i : ℕ) (d : Device) → slice_get to.devices i ≡ Some d → (partners : List (Option ℕ)) (numbers : List ℤ) → ComesBack to d partners numbers

-- The image may be written, if it is valid: it is normal, at its set's version and with the subsections that are
-- needed.
pub record MayBeWritten (set : Set) (d : Device) (image : Image) : Type 0 where
  pub normal : IsNormal set d image
  pub version : image.version ≡ d.desc.version
  pub needed : ComeAsNeeded set d image 0 d.subs image.came

-- An image that comes back may be written, if it is valid.
abbrev pub BackLaw : Type 0
BackLaw = (to new : Set) → IsFit to → WellFormed new → (i : ℕ) (d e : Device) → slice_get to.devices i ≡ Some d → (numbers : List ℤ) → AreOfKinds (device_cells new e) numbers
    → (image : Image) → IsBack to d (device_partners to new d e) numbers image → MayBeWritten to d image

-- The recast numbers of each device are of its kinds.
abbrev pub AreRecastOf : Set → Set → List Image → Type 0
AreRecastOf to new images =
    (k : ℕ) (e : Device) → slice_get new.devices k ≡ Some e → AreOfKinds (device_cells new e) (get_or (recast_each to new.devices (numbers_in images)) k [])

-- This is so for normal images of the newest set.
abbrev pub RecastOfLaw : Type 0
RecastOfLaw = (to : Set) (images : List Image) → length images ≡ length newest_set.devices
    → ((k : ℕ) (e : Device) (image : Image) → slice_get newest_set.devices k ≡ Some e → slice_get images k ≡ Some image → IsNormal newest_set e image) → AreRecastOf to newest_set images

-- The bytes are a stream of the newer set, with the same machine and the recast cells. Converting it again gives
-- the same bytes and no others.
pub record Converts (to new : Set) (describe : List Image → List ℕ) (machine : Option (List ℕ)) (images : List Image) (bytes : List ℕ) : Type 0 where
  pub loaded : List Image
  pub text : List ℕ
  pub stream : IsWholeStream new new.machines bytes machine loaded (Some text)
  pub cells : numbers_in loaded ≡ recast_each to new.devices (numbers_in images)
  pub again : IsConverted to new describe machine loaded bytes
  pub one : (others : List ℕ) → IsConverted to new describe machine loaded others → others ≡ bytes

-- This is so for each stream that is converted.
abbrev pub ConvertsLaw : Type 0
ConvertsLaw = (to new : Set) → IsFit to → WellFormed new → Compatible to new → (describe : List Image → List ℕ) → ((backs : List Image) → length (describe backs) ≤ longest_text)
    → (machine : Option (List ℕ)) (images : List Image) → AreRecastOf to new images → (bytes : List ℕ) → IsConverted to new describe machine images bytes
    → Converts to new describe machine images bytes

-- What is lost first is one thing, and nothing is lost if all is kept.
pub record IsOneLost (to new : Set) (machine : Option (List ℕ)) (wanted there : List (List ℤ)) (backs : List Image) : Type 0 where
  pub never_both : (section cell : Option ℕ) → KeepsAll to new machine wanted there backs → Loses to new machine wanted there backs section cell → ⊥
  pub one : (section cell section' cell' : Option ℕ) → Loses to new machine wanted there backs section cell → Loses to new machine wanted there backs section' cell'
      → (section ≡ section') × (cell ≡ cell')

-- This is so for all sets, machines, numbers and images.
abbrev pub OneLostLaw : Type 0
OneLostLaw = (to new : Set) (machine : Option (List ℕ)) (wanted there : List (List ℤ)) (backs : List Image) → IsOneLost to new machine wanted there backs

-- For a machine and images of the newer set: the images that come back, and what is lost first, unless all is kept.
pub record HasAnswer (to new : Set) (machine : Option (List ℕ)) (images : List Image) : Type 0 where
  pub backs : List Image
  pub back : AreBack to new (recast_each to new.devices (numbers_in images)) backs
  pub answer : KeepsAll to new machine (recast_each to new.devices (numbers_in images)) (numbers_in (carried to new backs)) backs
      ⊎ ((section : Option ℕ) × (cell : Option ℕ) × Loses to new machine (recast_each to new.devices (numbers_in images)) (numbers_in (carried to new backs)) backs section cell)

-- This is so for all images whose recast numbers are of their devices' kinds.
abbrev pub AnswerLaw : Type 0
AnswerLaw = (to new : Set) → IsFit to → WellFormed new → Compatible to new → (machine : Option (List ℕ)) (images : List Image) → length images ≡ length new.devices → AreRecastOf to new images
    → HasAnswer to new machine images
