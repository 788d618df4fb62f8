-- What the calls that write return, and what they require.
use Rattle.std.specs.Prelude.{ℕ, List, [], ◌++◌, Option, Some, None}
use Rattle.vms_spec.specs.declared.Part.TheVariants as parts
use Rattle.vms_spec.specs.Sets.{Set}
use Rattle.vms_spec.specs.Images.{Image, zeroed, sub_slots}
use Rattle.vms_spec.specs.Streams.{sub_head}
use Rattle.vms_desc.specs.Asks.{first_cell}
use Rattle.vms_desc.specs.Described.{device_at}
use Rattle.vms_desc.specs.Parts.{sub_at}

-- The bytes of subsection j of device i, if it came at a version: its head and its fields.
abbrev pub written_sub : Set → ℕ → Image → ℕ → Option ℕ → List ℕ
written_sub set i image j None = []
written_sub set i image j (Some v) =
    let s = sub_at (device_at set i) j in
    sub_head s.desc.name v ++ zeroed image.numbers (sub_slots set s v image.numbers (first_cell set (parts.Sub i j)))
