-- The places of a board's devices in each shipped set; a refusal names the devices by them.
use Rattle.std.specs.Prelude.{◌≡◌, ℕ, ◌+◌, ◌≤◌, codes, get_or, Some}
use Rattle.vms_spec.specs.Lookup.{find_device}
use Rattle.vms_spec.specs.Sets.{Device, Set}
use Rattle.vms_spec.specs.Shipped.{timer}
use Rattle.vms_desc.specs.Formed.{shipped_set}
use Rattle.dev_base.specs.declared.limits.TheConstants.{NEWEST}

-- `ArePlaced first set`: the timer, the master and the slave of the pair, the timer chip and the
-- serial port, found by name and instance, have the places from `first` on.
pub record ArePlaced (first : ℕ) (set : Set) : Type 0 where
  pub timer : find_device 0 set.devices (codes "timer") 0 ≡ Some first
  pub master : find_device 0 set.devices (codes "i8259") 0 ≡ Some (first + 1)
  pub slave : find_device 0 set.devices (codes "i8259") 1 ≡ Some (first + 2)
  pub pit : find_device 0 set.devices (codes "i8254") 0 ≡ Some (first + 3)
  pub serial : find_device 0 set.devices (codes "serial") 0 ≡ Some (first + 4)

-- In each shipped set from 1 on the places are 0 to 4.
abbrev pub PlacesLaw : Type 0
PlacesLaw = (s : ℕ) → 1 ≤ s → s ≤ NEWEST → ArePlaced 0 (shipped_set s)

-- The devices of a set by their places. `chip_in instance set` is the master with this instance id;
-- both chips have one description.
abbrev pub timer_in : Set → Device
timer_in set = get_or set.devices 0 timer

abbrev pub chip_in : ℕ → Set → Device
chip_in instance set = record (get_or set.devices 1 timer) { instance = instance }

abbrev pub pit_in : Set → Device
pit_in set = get_or set.devices 3 timer

abbrev pub serial_in : Set → Device
serial_in set = get_or set.devices 4 timer
