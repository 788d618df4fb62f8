-- The places of a clock board's devices in each clock set; a refusal names the devices by them. The
-- chip is first, and the board's devices are as in a shipped set, one place later.
use Rattle.std.specs.Prelude.{◌≡◌, codes, Some}
use Rattle.vms_shipped.specs.ClockSets.{clock_1, clock_2}
use Rattle.vms_spec.specs.Lookup.{find_device}
use Rattle.vms_spec.specs.Sets.{Set}
use Rattle.dev_images.specs.Places.{ArePlaced}

-- `AreAllPlaced set`: the chip, found by name and instance, is first. The board's devices are next.
pub record AreAllPlaced (set : Set) : Type 0 where
  pub clock : find_device 0 set.devices (codes "mc146818") 0 ≡ Some 0
  pub board : ArePlaced 1 set

-- This holds in each clock set.
pub record PlacesLaw : Type 0 where
  pub first : AreAllPlaced clock_1
  pub second : AreAllPlaced clock_2
