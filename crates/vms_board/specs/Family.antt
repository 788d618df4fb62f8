-- Boards of one kind: their sets, their events, and what is saved and restored.
use Rattle.std.specs.Prelude.{◌≡◌, ℕ, ◌-◌, ◌≤◌, Bool, List, map, Some, Result, Ok, ℤ}
use Rattle.std.specs.List.{slice_get}
use Rattle.dev_base.specs.Levels.{IsUpTo, ReachesSet}
use Rattle.dev_board.specs.declared.event.Answer.{Answer}
use Rattle.dev_board.specs.declared.event.Event.{Event}
use Rattle.dev_board.specs.declared.misfit.Misfit.{Misfit}
use Rattle.dev_images.specs.Images.{images_of}
use Rattle.vms_load.specs.Good.{AreKept}
use Rattle.vms_spec.specs.Heads.{FitsHeads}
use Rattle.vms_spec.specs.Images.{Image}
use Rattle.vms_spec.specs.Sets.{Set}
use Rattle.vms_spec.specs.Streams.{AreReady}
use Rattle.vms_spec.specs.WellFormed.{WellFormed}

-- A family of boards with states in `S`.
pub record Family (S : Type 0) : Type 0 where
  -- The sets by number, the newest number, and the machine's name of a board with a number.
  pub set : ℕ → Set
  pub newest : ℕ
  pub machine : ℕ → List ℕ
  -- The number of a board, and its present moment.
  pub number : S → ℕ
  pub moment : S → ℕ
  -- The interrupt output; OUT of a counter of the timer chip at the present moment; the ports that
  -- have a device; the number of bytes that may arrive on the serial line before one is lost; and
  -- the time of a character on it.
  pub int : S → Bool
  pub output : ℕ → S → Bool
  pub has_port : ℕ → S → Bool
  pub room : S → ℕ
  pub character : S → ℕ
  -- The board with a number at power on, and the effect of an event.
  pub power_on : ℕ → S
  pub step : Event → S → Answer × S
  -- The numbers of the devices under a set, in the set's order; and the board with the numbers of
  -- the newest set.
  pub lists : ℕ → S → List (List ℤ)
  pub restored : ℕ → List (List ℤ) → Result S Misfit

-- The numbers of images.
abbrev pub lists_in : List Image → List (List ℤ)
lists_in images = map (λ image. image.numbers) images

module _ {S : Type 0} (f : Family S) where
  -- Some board has this number.
  abbrev pub IsNumber : ℕ → Type 0
  IsNumber number = IsUpTo f.newest number

  -- The board may be saved under this set: one from its number to the newest.
  abbrev pub MaySaveIn : S → ℕ → Type 0
  MaySaveIn m set = ReachesSet f.newest (f.number m) set

  -- The images of a board under the set `set`.
  abbrev pub images_saved : ℕ → S → List Image
  images_saved set m = images_of (f.set set) (f.set set).devices (f.lists set m)

  -- The properties that code needs of a family. Each machine has its index in the sets. A sound
  -- board has a number, which it begins with, and which events and a restore keep. Its images are
  -- ready, and a board may be restored from those of a stream that was read. The newest set is well
  -- formed, and its sections' names fit their heads.
  pub record Stands (IsSound : S → Type 0) (AreTold : List (List ℤ) → Type 0) : Type 0 where
    pub named : (number set : ℕ) → 1 ≤ number → number ≤ set → set ≤ f.newest → slice_get (f.set set).machines (number - 1) ≡ Some (f.machine number)
    pub numbered : (m : S) → IsSound m → IsNumber (f.number m)
    pub begun : (number : ℕ) → f.number (f.power_on number) ≡ number
    pub stays : (event : Event) (m : S) → f.number (f.step event m).1 ≡ f.number m
    pub told_int : (event : Event) (m : S) → (f.step event m).0.int ≡ f.int (f.step event m).1
    pub kept : (number : ℕ) (lists : List (List ℤ)) (m : S) → f.restored number lists ≡ Ok m → f.number m ≡ number
    pub ready : (set : ℕ) (m : S) → IsSound m → MaySaveIn m set → AreReady (f.set set) (images_saved set m)
    pub told : (images : List Image) → AreKept (f.set f.newest) images → AreTold (lists_in images)
    pub well : WellFormed (f.set f.newest)
    pub heads : FitsHeads (f.set f.newest)
