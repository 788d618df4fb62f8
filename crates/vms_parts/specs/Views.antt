-- Description sets in memory as plain data.
use Rattle.std.specs.Prelude.{List, map, Box, box_value}
use Rattle.std.specs.Option.{option_map}
use Rattle.vms_spec.specs.Sets as sets
use Rattle.vms_spec.specs.Layout.{Cell, device_cells}
use Rattle.vms_parts.specs.declared.types.CellForm.{CellForm}
use Rattle.vms_parts.specs.declared.types.Test.{Test, AtLeast, Below, Cell as Number, Not', And', Or'}
use Rattle.vms_parts.specs.declared.types.Field.{Field}
use Rattle.vms_parts.specs.declared.types.Desc.{Desc}
use Rattle.vms_parts.specs.declared.types.Sub.{Sub}
use Rattle.vms_parts.specs.declared.types.Device.{Device}
use Rattle.vms_parts.specs.declared.types.Parts.{Parts}

-- the plain data of a test
abbrev pub formula : Test → sets.Formula
formula (AtLeast n) = sets.AtLeast n
formula (Below n) = sets.Below n
formula (Number whose field mask rel value) = sets.Cell whose field mask rel value
formula (Not' p t) = sets.Not (formula t)
formula (And' p s q t) = sets.And (formula s) (formula t)
formula (Or' p s q t) = sets.Or (formula s) (formula t)

-- the same of a test in a box
module _ {Z : Type 0} where
  abbrev pub formula_in : Box Test Z → sets.Formula
  formula_in b = formula (box_value b)

-- the plain data of a field
abbrev pub field_of : Field → sets.Field
field_of f = record { name = f.name; former = f.former; item = f.item; count = f.count; since = f.since; test = option_map formula_in f.test; default = f.default }

-- the plain data of a description
abbrev pub desc_of : Desc → sets.Desc
desc_of d = record { name = d.name; version = d.version; minimum = d.minimum; fields = map field_of d.fields; validate = map formula d.validate }

-- the plain data of a subsection
abbrev pub sub_of : Sub → sets.Sub
sub_of s = record { desc = desc_of s.desc; needed = formula s.needed }

-- the plain data of a device
abbrev pub device_of : Device → sets.Device
device_of d = record { instance = d.instance; desc = desc_of d.desc; subs = map sub_of d.subs }

-- the plain data of a set
abbrev pub set_of : Parts → sets.Set
set_of p = record { machines = p.machines; structs = map desc_of p.structs; devices = map device_of p.devices }

-- the form of a cell: its kind and default
abbrev pub form_of : Cell → CellForm
form_of c = record { kind = c.kind; default = c.default }

-- the forms of each device's cells, in order
abbrev pub layout_of : sets.Set → List (List CellForm)
layout_of set = map (λ d. map form_of (device_cells set d)) set.devices
