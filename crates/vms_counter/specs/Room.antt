-- The most bytes of sections, where those of each structure are given.
use Rattle.std.specs.Prelude.{ℕ, ◌+◌, List, [], ◌∷◌}
use Rattle.vms_spec.specs.Sets.{Sub, Device}
use Rattle.vms_load.specs.Bounds.{desc_bytes}
use Rattle.vms_marks.specs.declared.foot.TheConstants.{FOOT_LENGTH}
use Rattle.vms_marks.specs.declared.head.TheConstants.{LONGEST_HEAD}
use Rattle.vms_marks.specs.declared.sub_head.TheConstants.{LONGEST_SUB_HEAD}

-- The bytes of subsections with their heads.
abbrev pub subs_in : List ℕ → List Sub → ℕ
subs_in structs [] = 0
subs_in structs (s ∷ subs) = (desc_bytes structs s.desc + LONGEST_SUB_HEAD) + subs_in structs subs

-- The bytes of a device's section, with its head, its footer and all its subsections.
abbrev pub device_in : List ℕ → Device → ℕ
device_in structs d = (desc_bytes structs d.desc + subs_in structs d.subs) + (LONGEST_HEAD + FOOT_LENGTH)

-- The bytes of all devices' sections.
abbrev pub devices_in : List ℕ → List Device → ℕ
devices_in structs [] = 0
devices_in structs (d ∷ devices) = device_in structs d + devices_in structs devices
