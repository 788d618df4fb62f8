-- The most bytes that a stream has, with each array at its full length or capacity.
use Rattle.std.specs.Prelude.{ℕ, ◌+◌, ◌*◌, List, [], ◌∷◌, get_or}
use Rattle.vms_kinds.specs.declared.Item.{Item}
use Rattle.vms_kinds.specs.declared.Item.TheVariants.{Num, Equal, Unused, Struct}
use Rattle.vms_kinds.specs.Codes.{width}
use Rattle.vms_spec.specs.Sets.{Field, Desc}
use Rattle.vms_spec.specs.Layout.{capacity_of, first}

-- The most bytes of one element; `structs` are those of the structures.
abbrev pub item_bytes : List ℕ → Item → ℕ
item_bytes structs (Num kind) = width kind
item_bytes structs (Equal kind z) = width kind
item_bytes structs (Unused n) = n
item_bytes structs (Struct j) = get_or structs j 0

-- The most bytes of a field.
abbrev pub field_bytes : List ℕ → Field → ℕ
field_bytes structs f = capacity_of f.count * item_bytes structs f.item

-- The most bytes of a list of fields.
abbrev pub fields_bytes : List ℕ → List Field → ℕ
fields_bytes structs [] = 0
fields_bytes structs (f ∷ fs) = field_bytes structs f + fields_bytes structs fs

-- The most bytes of a description's fields.
abbrev pub desc_bytes : List ℕ → Desc → ℕ
desc_bytes structs d = fields_bytes structs d.fields

-- The most bytes of each of the first k structures.
abbrev pub struct_bytes : List Desc → ℕ → List ℕ
struct_bytes structs k = first desc_bytes structs k
