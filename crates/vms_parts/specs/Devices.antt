-- Devices by number.
use Rattle.std.specs.Prelude.{ℕ, [], get_or}
use Rattle.vms_spec.specs.Sets.{Set, Device}
use Rattle.vms_spec.specs.Layout.{no_desc}

-- device k of a set
abbrev pub device_at : Set → ℕ → Device
device_at set k = get_or set.devices k (record { instance = 0; desc = no_desc; subs = [] })
