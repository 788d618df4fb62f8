-- What an older set doesn't keep of the images of a newer one: the first cell, device or machine. See
-- docs/compatibility.md, "Going back to an older program".
use Rattle.std.specs.Prelude.{◌≡◌, ℕ, ◌<◌, false, true, List, [], ◌∷◌, length, get_or, map, Option, Some, None, IfSome, ℤ, pos}
use Rattle.std.specs.List.{slice_get}
use Rattle.vms_spec.specs.Sets.{Device, Set}
use Rattle.vms_spec.specs.Images.{Image, IsValid}
use Rattle.vms_spec.specs.Lookup.{find_device}
use Rattle.vms_spec.specs.Streams.{is_one_of}

-- The numbers of each device.
abbrev pub numbers_in : List Image → List (List ℤ)
numbers_in images = map (λ (image : Image). image.numbers) images

-- Device k of the newer set has a valid image in the older set, whose images are in its own order.
abbrev pub IsValidAt : (to new : Set) → List Image → ℕ → Type 0
IsValidAt to new backs k = (i : ℕ) (d e : Device) (back : Image) → slice_get new.devices k ≡ Some e → find_device 0 to.devices e.desc.name e.instance ≡ Some i
    → slice_get to.devices i ≡ Some d → slice_get backs i ≡ Some back → IsValid to d back

-- `c` is the first number that differs.
pub record DifferAt (wanted there : List ℤ) (c : ℕ) : Type 0 where
  pub inside : c < length wanted
  pub before : (b : ℕ) → b < c → get_or wanted b (pos 0) ≡ get_or there b (pos 0)
  pub other : get_or wanted c (pos 0) ≡ get_or there c (pos 0) → ⊥

-- The first cell of a device, which names the device, if it has one.
abbrev pub first_cell : List ℤ → Option ℕ
first_cell [] = None
first_cell (z ∷ numbers) = Some 0

-- `wanted` are the numbers of each device of the newer set; `there` are those that the older images carry. The
-- device and the cell are the newer set's. The machine has neither.
pub data Loses (to new : Set) (machine : Option (List ℕ)) (wanted there : List (List ℤ)) (backs : List Image) : Option ℕ → Option ℕ → Type 0 where
  OfCell : (k c : ℕ) → ((i : ℕ) → i < k → get_or wanted i [] ≡ get_or there i []) → DifferAt (get_or wanted k []) (get_or there k []) c
      → Loses to new machine wanted there backs (Some k) (Some c)
  OfDevice : (k : ℕ) → k < length new.devices → wanted ≡ there → ((i : ℕ) → i < k → IsValidAt to new backs i) → (IsValidAt to new backs k → ⊥)
      → Loses to new machine wanted there backs (Some k) (first_cell (get_or wanted k []))
  OfMachine : (name : List ℕ) → wanted ≡ there → ((i : ℕ) → i < length new.devices → IsValidAt to new backs i)
      → machine ≡ Some name → is_one_of to.machines name ≡ false → Loses to new machine wanted there backs None None

-- Nothing is lost.
pub record KeepsAll (to new : Set) (machine : Option (List ℕ)) (wanted there : List (List ℤ)) (backs : List Image) : Type 0 where
  pub cells : wanted ≡ there
  pub valid : (k : ℕ) → k < length new.devices → IsValidAt to new backs k
  pub machine_is : IfSome machine (λ name. is_one_of to.machines name ≡ true)
