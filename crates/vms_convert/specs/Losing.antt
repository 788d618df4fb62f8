-- What the code finds to be lost.
use Rattle.std.specs.Prelude.{◌≡◌, ℕ, ◌<◌, true, false, List, [], ◌∷◌, length, map, Option, Some, None, IfSome, Result, Ok, Err, ℤ}
use Rattle.std.specs.List.{slice_get}
use Rattle.vms_spec.specs.Lists.{at_option}
use Rattle.vms_spec.specs.Sets.{Device, Set}
use Rattle.vms_spec.specs.Layout.{device_cells}
use Rattle.vms_spec.specs.Images.{Image}
use Rattle.vms_spec.specs.Streams.{is_one_of, written}
use Rattle.vms_parts.specs.Devices.{device_at}
use Rattle.vms_image.specs.Typed.{IsImageOf, Typed, state_of}
use Rattle.vms_selfdesc.specs.Tree.{described_text}
use Rattle.vms_convert.specs.Laws.{MayBeWritten}
use Rattle.vms_convert.specs.Lost.{IsValidAt, KeepsAll, Loses}
use Rattle.vms_convert.specs.declared.fault.Loss.{Loss}

-- One image for each device, which may be written if it is valid.
pub record AreWritable (to : Set) (images : List Typed) : Type 0 where
  pub count : length images ≡ length to.devices
  pub of : (i : ℕ) (image : Typed) → slice_get images i ≡ Some image → IsImageOf to i image
  pub may : (i : ℕ) (d : Device) (image : Image) → slice_get to.devices i ≡ Some d → slice_get (map state_of images) i ≡ Some image → MayBeWritten to d image

-- The number of a list's first element, if it has one.
abbrev pub first_of : {A : Type 0} → List A → Option ℕ
first_of [] = None
first_of (x ∷ xs) = Some 0

-- The first cell of device k, if it has one.
abbrev pub first_cell_at : Set → ℕ → Option ℕ
first_cell_at set k = first_of (device_cells set (device_at set k))

-- The first of the newer set's devices whose image isn't valid in the older set.
abbrev pub FirstInvalid : (to new : Set) → List Image → Option ℕ → Type 0
FirstInvalid to new backs None = (k : ℕ) → k < length new.devices → IsValidAt to new backs k
FirstInvalid to new backs (Some k) = (k < length new.devices) × ((i : ℕ) → i < k → IsValidAt to new backs i) × (IsValidAt to new backs k → ⊥)

-- The machine's name, if there is one, is the older set's name of number m.
pub record KeepsName (to : Set) (name : Option (List ℕ)) (m : Option ℕ) : Type 0 where
  pub is : at_option to.machines m ≡ name
  pub inside : IfSome m (λ i. i < length to.machines)
  pub one : IfSome name (λ n. is_one_of to.machines n ≡ true)

-- The machine's name isn't one of the older set's.
pub record LosesName (to : Set) (name : Option (List ℕ)) (loss : Loss) : Type 0 where
  pub which : List ℕ
  pub is : name ≡ Some which
  pub none : is_one_of to.machines which ≡ false
  pub loss_is : loss ≡ record { section = None; cell = None }

-- The machine's number in the older set, or its loss.
abbrev pub KeepsMachine : Set → Option (List ℕ) → Result (Option ℕ) Loss → Type 0
KeepsMachine to name (Ok m) = KeepsName to name m
KeepsMachine to name (Err loss) = LosesName to name loss

-- All is kept, and the machine has this number; or this is lost first.
abbrev pub Judges : (to new : Set) → Option (List ℕ) → (wanted there : List (List ℤ)) → List Image → Result (Option ℕ) Loss → Type 0
Judges to new name wanted there backs (Ok m) = KeepsAll to new name wanted there backs × KeepsName to name m
Judges to new name wanted there backs (Err loss) = Loses to new name wanted there backs loss.section loss.cell

-- The stream of a machine and images of the older set, which describes itself.
abbrev pub stream_of : Set → Option (List ℕ) → List Image → List ℕ
stream_of to name backs = written to name backs (Some (described_text to backs))
