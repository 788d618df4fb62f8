-- What the test of readiness returns for the parts of a device.
use Rattle.std.specs.Prelude.{ℕ, Bool, ◌&&◌, ◌==◌, List, [], get_or, map, None}
use Rattle.vms_spec.specs.declared.Part.TheVariants as parts
use Rattle.vms_spec.specs.Sets.{Set, Device}
use Rattle.vms_spec.specs.Images.{Image, own_cells, own_slots, sub_slots}
use Rattle.vms_spec.specs.Layout.{device_cells}
use Rattle.vms_spec.specs.Places.{own_cell_count}
use Rattle.vms_parts.specs.declared.types.CellForm.{CellForm}
use Rattle.vms_parts.specs.Views.{form_of}
use Rattle.vms_desc.specs.Asks.{first_cell}
use Rattle.vms_desc.specs.Described.{device_at}
use Rattle.vms_desc.specs.Parts.{sub_at}
use Rattle.vms_write.specs.Fine.{settle, is_fine, sub_fine, subs_fine}

-- The forms of a device's cells.
abbrev pub forms_of : Set → Device → List CellForm
forms_of set d = map form_of (device_cells set d)

-- Whether the device's own fields may be written.
abbrev pub own_fine : Set → Device → Image → Bool
own_fine set d image =
    image.version == d.desc.version && is_fine (forms_of set d) image.numbers (own_slots set d image.version image.numbers) 0 (own_cells set d)

-- Whether all its subsections may be written.
abbrev pub all_subs_fine : Set → Device → Image → Bool
all_subs_fine set d image = subs_fine set d (forms_of set d) image 0 (own_cells set d) d.subs image.came

-- Whether subsection j of device i may be written, as it came.
abbrev pub sub_fine_at : Set → ℕ → Image → ℕ → Bool
sub_fine_at set i image j =
    let d = device_at set i in
    sub_fine set d (forms_of set d) image j (first_cell set (parts.Sub i j)) (sub_at d j) (get_or image.came j None)

-- Whether subsection j of device i has all its cells at their defaults.
abbrev pub is_bare_at : Set → ℕ → Image → ℕ → Bool
is_bare_at set i image j =
    let d = device_at set i in
    settle [] (forms_of set d) image.numbers (first_cell set (parts.Sub i j)) (own_cell_count set (sub_at d j).desc)

-- Whether subsection j of device i may be written, if it came at version `v`.
abbrev pub is_sent_fine_at : Set → ℕ → Image → ℕ → ℕ → Bool
is_sent_fine_at set i image j v =
    let d = device_at set i in
    let s = sub_at d j in
    let at = first_cell set (parts.Sub i j) in
    v == s.desc.version && is_fine (forms_of set d) image.numbers (sub_slots set s v image.numbers at) at (own_cell_count set s.desc)
