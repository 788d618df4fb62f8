-- The kinds of the devices' cells in the shipped sets.
use Rattle.std.specs.Prelude.{◌≡◌, ℕ, ◌≤◌, List, [], ◌∷◌, map}
use Rattle.vms_kinds.specs.declared.Kind.{Kind}
use Rattle.vms_spec.specs.Sets.{Set}
use Rattle.vms_spec.specs.Layout.{device_cells}
use Rattle.vms_desc.specs.Formed.{shipped_set}
use Rattle.dev_base.specs.declared.limits.TheConstants.{NEWEST}
use Rattle.dev_pic.specs.Cells.{kinds as pic_kinds}
use Rattle.dev_pit.specs.Cells.{kinds_of as pit_kinds}
use Rattle.dev_serial.specs.Cells.{kinds as serial_kinds}
use Rattle.vms_kinds.specs.declared.Kind.TheVariants.{U64}

-- `kinds_in set` is the list of the kinds of each device's cells, in the set's order.
abbrev pub kinds_in : Set → List (List Kind)
kinds_in set = map (λ d. map (λ c. c.kind) (device_cells set d)) set.devices

-- `kinds_saved s` is the list of the kinds that the devices save: the moment, both chips of the
-- pair, the timer chip and the serial port.
abbrev pub kinds_saved : ℕ → List (List Kind)
kinds_saved s = (U64 ∷ []) ∷ pic_kinds s ∷ pic_kinds s ∷ pit_kinds s ∷ serial_kinds s ∷ []

-- In each shipped set from 1 on these are the same.
abbrev pub KindsLaw : Type 0
KindsLaw = (s : ℕ) → 1 ≤ s → s ≤ NEWEST → kinds_in (shipped_set s) ≡ kinds_saved s
