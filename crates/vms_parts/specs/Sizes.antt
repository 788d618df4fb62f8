-- The numbers of cells, or items, of the fields of a description. In the code these numbers end at
-- 2 ^ 32 - 1, because a structure that no device uses may have more.
use Rattle.std.specs.Prelude.{ℕ, ◌+◌, ◌*◌, ◌-◌, ◌^◌, min, List, [], ◌∷◌, get_or}
use Rattle.vms_kinds.specs.declared.Item.{Item}
use Rattle.vms_kinds.specs.declared.Item.TheVariants.{Num, Equal, Unused, Struct}
use Rattle.vms_spec.specs.Sets.{Field, Desc, Sub}
use Rattle.vms_spec.specs.Layout.{first, capacity_of}
use Rattle.vms_parts.specs.declared.sizes.Measure.{Measure}
use Rattle.vms_parts.specs.declared.sizes.Measure.TheVariants.{Cells, Items}

-- the number, or 2 ^ 32 - 1 if it is greater
abbrev pub in_u32 : ℕ → ℕ
in_u32 n = min n (2 ^ 32 - 1)

-- constants and unused bytes have no cell, and count as one item each
abbrev pub constant_size : Measure → ℕ
constant_size Cells = 0
constant_size Items = 1

-- the size of one element of an item, given those of the structures
abbrev pub size_of : Measure → List ℕ → Item → ℕ
size_of m sizes (Num kind) = 1
size_of m sizes (Equal kind z) = constant_size m
size_of m sizes (Unused n) = constant_size m
size_of m sizes (Struct j) = get_or sizes j 0

-- the size of the fields
abbrev pub fields_size : Measure → List ℕ → List Field → ℕ
fields_size m sizes [] = 0
fields_size m sizes (f ∷ fs) = capacity_of f.count * size_of m sizes f.item + fields_size m sizes fs

-- the size of the fields of the subsections
abbrev pub subs_size : Measure → List ℕ → List Sub → ℕ
subs_size m sizes [] = 0
subs_size m sizes (s ∷ subs) = fields_size m sizes s.desc.fields + subs_size m sizes subs

-- the sizes of the first k structures
abbrev pub sizes_to : Measure → List Desc → ℕ → List ℕ
sizes_to m structs k = first (λ sizes d. fields_size m sizes d.fields) structs k
