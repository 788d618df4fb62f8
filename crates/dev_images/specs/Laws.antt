-- The laws of the images of a board's devices that contracts name.
use Rattle.std.specs.Prelude.{◌≡◌, ℕ, ◌≤◌, ℤ, Some, Ok, length, List}
use Rattle.std.specs.List.{slice_get}
use Rattle.dev_base.specs.Cells.{AreOf}
use Rattle.dev_base.specs.declared.limits.TheConstants.{NEWEST}
use Rattle.dev_board.specs.Saved.{timer_kinds, MaySaveUnder, AreBoardCells, saved, carried as board_carried, restored}
use Rattle.dev_board.specs.Step.{observe}
use Rattle.dev_board.specs.declared.event.Event.{Event}
use Rattle.dev_board.specs.SavedLaws.{ComesBack}
use Rattle.dev_board.specs.Sound.{IsSound}
use Rattle.dev_board.specs.State.{State}
use Rattle.vms_desc.specs.Formed.{newest_set, shipped_set}
use Rattle.dev_pic.specs.Cells.{kinds as pic_kinds, carried as pic_carried}
use Rattle.dev_pit.specs.Cells.{carried as pit_carried, AreCellsOf as ArePitCells}
use Rattle.dev_serial.specs.Cells.{carried as serial_carried}
use Rattle.dev_serial.specs.Laws.{AreSaved as AreSerialCells}
use Rattle.vms_check.specs.Carrying.{carried_device, carried}
use Rattle.vms_spec.specs.Sets.{Set, Device}
use Rattle.vms_spec.specs.Streams.{IsReady, AreReady}
use Rattle.vms_spec.specs.Images.{Image, IsNormal}
use Rattle.dev_images.specs.Images.{image_of, saved_images, cells_in}
use Rattle.dev_images.specs.Places.{timer_in, chip_in, pit_in, serial_in}

-- `ReadyOf set d numbers`: the image of these numbers is ready, so it may be written
-- (docs/format.md, "Which images may be written").
abbrev pub ReadyOf : Set → Device → List ℤ → Type 0
ReadyOf set d numbers = IsReady set d (image_of set d numbers)

-- `InEachSet Says device`: a statement holds for each shipped set from 1 on, by its number and its
-- device.
pub record InEachSet (Says : ℕ → Set → Device → Type 0) (device : Set → Device) : Type 0 where
  pub each : (s : ℕ) → 1 ≤ s → s ≤ NEWEST → Says s (shipped_set s) (device (shipped_set s))

-- `ReadyWhere Are number set d`: the image of every list of numbers that are such cells is ready.
abbrev pub ReadyWhere : (ℕ → List ℤ → Type 0) → ℕ → Set → Device → Type 0
ReadyWhere Are number set d = (numbers : List ℤ) → Are number numbers → ReadyOf set d numbers

-- `AreTimerCells set numbers`: they are the cell of a moment.
abbrev pub AreTimerCells : ℕ → List ℤ → Type 0
AreTimerCells set numbers = AreOf timer_kinds numbers

-- `AreChipCells set numbers`: they are the cells of an 8259A in the set.
abbrev pub AreChipCells : ℕ → List ℤ → Type 0
AreChipCells set numbers = AreOf (pic_kinds set) numbers

-- The image of a moment is ready in each shipped set from 1 on.
abbrev pub TimerIsReady : Type 0
TimerIsReady = InEachSet (ReadyWhere AreTimerCells) timer_in

-- The image of an 8259A's cells is ready in each shipped set from 1 on.
pub record ChipIsReady : Type 0 where
  pub chip : (instance : ℕ) → InEachSet (ReadyWhere AreChipCells) (chip_in instance)

-- The image of normal cells of the timer chip is ready in each shipped set from 1 on.
abbrev pub PitIsReady : Type 0
PitIsReady = InEachSet (ReadyWhere ArePitCells) pit_in

-- The image of the cells that a serial port saves is ready in each shipped set from 1 on.
abbrev pub SerialIsReady : Type 0
SerialIsReady = InEachSet (ReadyWhere AreSerialCells) serial_in

-- `carried_numbers set d e numbers` is the list of the numbers of device `e` of the newest set,
-- carried from an image of device `d` of `set`.
abbrev pub carried_numbers : Set → Device → Device → List ℤ → List ℤ
carried_numbers set d e numbers = (carried_device set (shipped_set NEWEST) d e (image_of set d numbers)).numbers

-- `CarriedWhere Are table newest number set d`: every list of such cells is carried to the newest
-- set as the device's own table says.
abbrev pub CarriedWhere : (ℕ → List ℤ → Type 0) → (ℕ → List ℤ → List ℤ) → Device → ℕ → Set → Device → Type 0
CarriedWhere Are table newest number set d =
    (numbers : List ℤ) → Are number numbers → carried_numbers set d newest numbers ≡ table number numbers

-- A moment is carried unchanged.
abbrev pub TimerIsCarried : Type 0
TimerIsCarried = InEachSet (CarriedWhere AreTimerCells (λ set numbers. numbers) (timer_in newest_set)) timer_in

-- The cells of an 8259A are carried as its table says.
pub record ChipIsCarried : Type 0 where
  pub chip : (instance : ℕ)
      → InEachSet (CarriedWhere AreChipCells pic_carried (chip_in instance newest_set)) (chip_in instance)

-- The cells of the timer chip are carried as its table says; an absent one is at its default.
abbrev pub PitIsCarried : Type 0
PitIsCarried = InEachSet (CarriedWhere ArePitCells pit_carried (pit_in newest_set)) pit_in

-- The cells of a serial port are carried as its table says.
abbrev pub SerialIsCarried : Type 0
SerialIsCarried = InEachSet (CarriedWhere AreSerialCells serial_carried (serial_in newest_set)) serial_in

-- A sound board is saved in ready images of the set, for any shipped set from its level on.
pub record SavedAreReady : Type 0 where
  pub images : (set : ℕ) (m : State) → IsSound m → MaySaveUnder m.level set → AreReady (shipped_set set) (saved_images set m)

-- A comparison of sets carries saved images to the newest set as the devices' own tables carry
-- their cells.
pub record SavedIsCarried : Type 0 where
  pub cells : (set : ℕ) (m : State) → IsSound m → MaySaveUnder m.level set → cells_in (carried (shipped_set set) (shipped_set NEWEST) (saved_images set m)) ≡ board_carried set (saved set m)

-- Images saved of a sound board in any set from its level on, carried to the newest, give a board
-- like it.
pub record ImagesComeBack : Type 0 where
  pub back : (set : ℕ) (m : State) → IsSound m → MaySaveUnder m.level set → ComesBack m.level (cells_in (carried (shipped_set set) (shipped_set NEWEST) (saved_images set m))) m
  -- The restored board gives the same answers to every list of events as the saved one.
  pub answers : (set : ℕ) (m back : State) (events : List Event) → IsSound m → MaySaveUnder m.level set → restored m.level (cells_in (carried (shipped_set set) (shipped_set NEWEST) (saved_images set m))) ≡ Ok back → observe events back ≡ observe events m

-- Normal images of the newest set, one for each device, have the cells that a restore of a board
-- requires.
pub record NormalMayBeRestored : Type 0 where
  pub cells : (images : List Image) → length images ≡ length (shipped_set NEWEST).devices → ((k : ℕ) (d : Device) (image : Image) → slice_get (shipped_set NEWEST).devices k ≡ Some d → slice_get images k ≡ Some image → IsNormal (shipped_set NEWEST) d image) → AreBoardCells (cells_in images)
