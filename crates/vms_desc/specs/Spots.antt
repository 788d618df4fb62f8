-- The kinds of a device's cells, and their defaults.
use Rattle.std.specs.Prelude.{ℕ, List, map}
use Rattle.vms_kinds.specs.declared.Kind.{Kind}
use Rattle.vms_spec.specs.Sets.{Set}
use Rattle.vms_spec.specs.Layout.{device_cells}
use Rattle.vms_parts.specs.Devices.{device_at}
use Rattle.vms_parts.specs.declared.types.CellForm.{CellForm}
use Rattle.vms_spots.specs.Spots.{Held}

-- the kinds of the cells of device k, in order
abbrev pub kinds_at : Set → ℕ → List Kind
kinds_at set device = map (λ c. c.kind) (device_cells set (device_at set device))

-- the numbers of cells of these forms, each at its default
abbrev pub form_numbers : List CellForm → Held
form_numbers forms = record { kinds = map (λ form. form.kind) forms; numbers = map (λ form. form.default) forms }

-- the defaults of the cells of device k
abbrev pub defaults_at : Set → ℕ → Held
defaults_at set device = record { kinds = kinds_at set device; numbers = map (λ c. c.default) (device_cells set (device_at set device)) }
