-- The forms of the cells of a description: a cell's kind and default, without the capacities that
-- it counts.
use Rattle.std.specs.Prelude.{ℕ, List, [], ◌∷◌, ◌++◌, get_or, length, map, ℤ}
use Rattle.vms_kinds.specs.declared.Item.{Item}
use Rattle.vms_kinds.specs.declared.Item.TheVariants.{Num, Equal, Unused, Struct}
use Rattle.vms_spec.specs.Sets.{Field, Desc, Sub, Device}
use Rattle.vms_spec.specs.Layout.{first, times, capacity_of}
use Rattle.vms_parts.specs.Views.{desc_of}
use Rattle.vms_parts.specs.declared.types.CellForm.{CellForm}
use Rattle.vms_parts.specs.declared.types.Desc as parts

-- the forms of one element of an item, given those of the structures
abbrev pub item_forms : List (List CellForm) → Item → ℤ → List CellForm
item_forms structs (Num kind) default = record { kind = kind; default = default } ∷ []
item_forms structs (Equal kind z) default = []
item_forms structs (Unused n) default = []
item_forms structs (Struct j) default = get_or structs j []

-- the forms of a field
abbrev pub field_forms : List (List CellForm) → Field → List CellForm
field_forms structs f = times (capacity_of f.count) (λ _. item_forms structs f.item f.default) 0 0

-- the forms of these fields
abbrev pub fields_forms : List (List CellForm) → List Field → List CellForm
fields_forms structs [] = []
fields_forms structs (f ∷ fs) = field_forms structs f ++ fields_forms structs fs

-- the forms of the first k structures
abbrev pub forms_to : List Desc → ℕ → List (List CellForm)
forms_to structs k = first (λ forms d. fields_forms forms d.fields) structs k

-- the forms of all structures
abbrev pub structs_forms : List parts.Desc → List (List CellForm)
structs_forms structs = forms_to (map desc_of structs) (length structs)

-- the forms of the subsections
abbrev pub subs_forms : List (List CellForm) → List Sub → List CellForm
subs_forms structs [] = []
subs_forms structs (s ∷ subs) = fields_forms structs s.desc.fields ++ subs_forms structs subs

-- the forms of a device: those of its fields, then those of each subsection
abbrev pub device_forms : List (List CellForm) → Device → List CellForm
device_forms structs d = fields_forms structs d.desc.fields ++ subs_forms structs d.subs
