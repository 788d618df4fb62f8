-- A set without its validations.
use Rattle.std.specs.Prelude.{map, []}
use Rattle.vms_spec.specs.Sets.{Desc, Sub, Device, Set}

-- The description without validations.
abbrev pub unruled_desc : Desc → Desc
unruled_desc d = record d { validate = [] }

-- The subsection without validations.
abbrev pub unruled_sub : Sub → Sub
unruled_sub s = record s { desc = unruled_desc s.desc }

-- The device without validations, its own and its subsections'.
abbrev pub unruled_device : Device → Device
unruled_device d = record d { desc = unruled_desc d.desc; subs = map unruled_sub d.subs }

-- The set without validations.
abbrev pub unruled : Set → Set
unruled set = record set { structs = map unruled_desc set.structs; devices = map unruled_device set.devices }
