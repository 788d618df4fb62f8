-- The laws of the images of a clock board's devices that contracts name.
use Rattle.std.specs.Prelude.{◌≡◌, ℕ, ◌≤◌, List, ◌∷◌, length, Some, Ok, ℤ}
use Rattle.std.specs.List.{slice_get}
use Rattle.dev_base.specs.Cells.{AreOf}
use Rattle.dev_base.specs.declared.limits.TheConstants.{NEWEST}
use Rattle.dev_board.specs.declared.event.Event.{Event}
use Rattle.dev_clock.specs.Saved.{MaySaveUnder, AreClockCells, saved, carried as clock_carried, restored}
use Rattle.dev_clock.specs.SavedLaws.{ComesBack}
use Rattle.dev_clock.specs.Sound.{IsSound}
use Rattle.dev_clock.specs.State.{ClockState}
use Rattle.dev_clock.specs.Step.{observe}
use Rattle.dev_images.specs.Kinds.{kinds_in, kinds_saved}
use Rattle.dev_images.specs.Laws.{ReadyOf}
use Rattle.vms_check.specs.Carrying.{carried}
use Rattle.vms_check.specs.Comparing.{Compatible}
use Rattle.vms_desc.specs.Formed.{clock_set}
use Rattle.vms_rtc.specs.Cells.{kinds}
use Rattle.vms_rtc.specs.declared.limits.TheConstants.{NEWEST_CLOCK}
use Rattle.vms_shipped.specs.ClockSets.{clock_1, clock_2, mc146818_at_1, mc146818_at_2}
use Rattle.vms_spec.specs.Images.{Image, IsNormal}
use Rattle.vms_spec.specs.Sets.{Device}
use Rattle.vms_spec.specs.Streams.{AreReady}
use Rattle.dev_clock_images.specs.Images.{saved_images, cells_in}

-- In each clock set the devices' cells have the kinds that the devices save.
pub record KindsLaw : Type 0 where
  pub first : kinds_in clock_1 ≡ kinds 1 ∷ kinds_saved NEWEST
  pub second : kinds_in clock_2 ≡ kinds 2 ∷ kinds_saved NEWEST

-- Each clock set is compatible with the newest.
pub record SetsAreCompatible : Type 0 where
  pub newest : (set : ℕ) → 1 ≤ set → set ≤ NEWEST_CLOCK → Compatible (clock_set set) (clock_set NEWEST_CLOCK)

-- The image of the chip's cells is ready in each clock set (docs/format.md, "Which images may be
-- written").
pub record ChipIsReady : Type 0 where
  pub first : (numbers : List ℤ) → AreOf (kinds 1) numbers → ReadyOf clock_1 mc146818_at_1 numbers
  pub second : (numbers : List ℤ) → AreOf (kinds 2) numbers → ReadyOf clock_2 mc146818_at_2 numbers

-- Sound devices are saved in ready images of the clock set, for any from their version on.
pub record SavedAreReady : Type 0 where
  pub images : (set : ℕ) (m : ClockState) → IsSound m → MaySaveUnder m.clock.version set → AreReady (clock_set set) (saved_images set m)

-- A comparison of sets carries saved images to the newest set as the devices' own tables carry
-- their cells.
pub record SavedIsCarried : Type 0 where
  pub cells : (set : ℕ) (m : ClockState) → IsSound m → MaySaveUnder m.clock.version set
      → cells_in (carried (clock_set set) (clock_set NEWEST_CLOCK) (saved_images set m)) ≡ clock_carried set (saved set m)

-- Images saved of sound devices in any clock set from their version on, carried to the newest, give
-- devices like them.
pub record ImagesComeBack : Type 0 where
  pub back : (set : ℕ) (m : ClockState) → IsSound m → MaySaveUnder m.clock.version set
      → ComesBack m.clock.version (cells_in (carried (clock_set set) (clock_set NEWEST_CLOCK) (saved_images set m))) m
  -- The restored devices give the same answers to every list of events as the saved ones.
  pub answers : (set : ℕ) (m back : ClockState) (events : List Event) → IsSound m → MaySaveUnder m.clock.version set
      → restored m.clock.version (cells_in (carried (clock_set set) (clock_set NEWEST_CLOCK) (saved_images set m))) ≡ Ok back
      → observe events back ≡ observe events m

-- Normal images of the newest clock set, one for each device, have the cells that a restore of the
-- devices requires.
pub record NormalMayBeRestored : Type 0 where
  pub cells : (images : List Image) → length images ≡ length (clock_set NEWEST_CLOCK).devices
      → ((k : ℕ) (d : Device) (image : Image) → slice_get (clock_set NEWEST_CLOCK).devices k ≡ Some d → slice_get images k ≡ Some image
      → IsNormal (clock_set NEWEST_CLOCK) d image)
      → AreClockCells (cells_in images)
