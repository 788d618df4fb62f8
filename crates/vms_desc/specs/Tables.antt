-- The tables of descriptions, which are computed once.
use Rattle.std.specs.Prelude.{◌≡◌, ℕ, suc, ◌<◌, ◌≤◌, List, [], ◌∷◌, length, get_or, take, map}
use Rattle.vms_spec.specs.Layout.{no_desc}
use Rattle.vms_spec.specs.Sets.{Field, Device}
use Rattle.vms_parts.specs.declared.sizes.Measure.TheVariants.{Cells}
use Rattle.vms_parts.specs.Sizes.{in_u32, fields_size}
use Rattle.vms_parts.specs.Capacities.{AreLeast}
use Rattle.vms_desc.specs.declared.table.Table.{Table}

-- the first cell of each field, and last the end of all cells
pub record AreStarts (sizes : List ℕ) (fields : List Field) (starts : List ℕ) : Type 0 where
  pub long : length starts ≡ suc (length fields)
  pub start : (k : ℕ) → k ≤ length fields → get_or starts k 0 ≡ in_u32 (fields_size Cells sizes (take k fields))

-- the table of a description with these fields
pub record IsTable (sizes : List ℕ) (fields : List Field) (table : Table) : Type 0 where
  pub starts : AreStarts sizes fields table.starts
  pub mosts : AreLeast fields table.mosts

-- the table that is used if there is none
abbrev pub no_table : Table
no_table = record { starts = []; mosts = [] }

-- a table for the fields of each description
pub record AreTables (sizes : List ℕ) (descs : List (List Field)) (tables : List Table) : Type 0 where
  pub long : length tables ≡ length descs
  pub table : (k : ℕ) → k < length descs → IsTable sizes (get_or descs k []) (get_or tables k no_table)

-- the fields of a device's own description, and then those of each subsection
abbrev pub device_fields : Device → List (List Field)
device_fields d = d.desc.fields ∷ map (λ s. s.desc.fields) d.subs

-- there are tables for each device
pub record AreDeviceTables (sizes : List ℕ) (devices : List Device) (tables : List (List Table)) : Type 0 where
  pub long : length tables ≡ length devices
  pub each : (i : ℕ) → i < length devices → AreTables sizes (device_fields (get_or devices i (record { instance = 0; desc = no_desc; subs = [] }))) (get_or tables i [])
