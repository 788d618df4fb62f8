-- What the rows of the tables of shipped sets stand for.
use Rattle.std.specs.Prelude.{ℕ, List, [], ◌∷◌, ◌++◌, map}
use Rattle.std.specs.Borrow.{Bor}
use Rattle.vms_fields.specs.Fields.{Row, fields_at}
use Rattle.vms_fields.specs.declared.Shape.{Shape}
use Rattle.vms_spec.specs.Sets as sets
use Rattle.vms_spec.specs.declared.Rel.{Rel}
use Rattle.vms_spec.specs.declared.Whose.TheVariants.{Own}
use Rattle.vms_spec.specs.Shipped.{field, desc, device, sub}
use Rattle.vms_shipped.specs.declared.rows.FieldRow.{FieldRow}
use Rattle.vms_shipped.specs.declared.rows.Rows.{Rows}
use Rattle.vms_shipped.specs.declared.rows.Rows.TheVariants.{One, Of}
use Rattle.vms_shipped.specs.declared.rows.DescRow.{DescRow}
use Rattle.vms_shipped.specs.declared.rows.Needed.{Needed}
use Rattle.vms_shipped.specs.declared.rows.Needed.TheVariants.{Only, Either}
use Rattle.vms_shipped.specs.declared.rows.DeviceRow.{DeviceRow}
use Rattle.vms_shipped.specs.declared.rows.SetRow.{SetRow}

-- the test of a row: a field, a mask, a relation and a value
abbrev pub asked_in : (ℕ × ℕ × Rel × ℕ) → sets.Formula
asked_in a = sets.Cell Own a.0 a.1 a.2 a.3

-- the field of a row
abbrev pub field_in : FieldRow → sets.Field
field_in r = record (field r.name.now r.item) { count = r.count }

-- a row of a device's list
abbrev pub listed_row : (Bor (List ℕ) × Bor (List (Bor (List ℕ))) × Shape) → Row
listed_row r = record { name = r.0.now; former = map (λ n. n.now) r.1.now; shape = r.2 }

-- the fields of a row of a description at `version`
abbrev pub fields_in : ℕ → Rows → List sets.Field
fields_in version (One row) = field_in row ∷ []
fields_in version (Of rows part) = fields_at version part (map listed_row rows.now)

-- the fields of all rows, in order
abbrev pub all_in : ℕ → List Rows → List sets.Field
all_in version [] = []
all_in version (row ∷ rows) = fields_in version row ++ all_in version rows

-- the description of a row
abbrev pub desc_in : DescRow → sets.Desc
desc_in r = desc r.name.now r.version (all_in r.version r.rows.now)

-- the needed test of a row
abbrev pub needed_in : Needed → sets.Formula
needed_in (Only a) = asked_in a
needed_in (Either a b) = sets.Or (asked_in a) (asked_in b)

-- the subsection of a row: a name, the rows of its fields, and its needed test
abbrev pub sub_in : (Bor (List ℕ) × Bor (List Rows) × Needed) → sets.Sub
sub_in r = sub r.0.now (all_in 1 r.1.now) (needed_in r.2)

-- the device of a row
abbrev pub device_in : DeviceRow → sets.Device
device_in r = device r.instance (desc r.name.now r.version (all_in r.version r.rows.now)) (map sub_in r.subs.now)

-- the set of a row
abbrev pub set_in : SetRow → sets.Set
set_in r = record { machines = map (λ n. n.now) r.machines.now; structs = map desc_in r.structs.now; devices = map device_in r.devices.now }
