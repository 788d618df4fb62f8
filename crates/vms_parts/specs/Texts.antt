-- The bytes of a text.
use Rattle.std.specs.Prelude.{ℕ, List, string_bytes}
use Rattle.vms_parts.specs.declared.listed.Held.{Held}
use Rattle.vms_parts.specs.declared.listed.Held.TheVariants.{Short, Long}

-- the bytes of a text, in the value itself or in memory of its own
abbrev pub bytes_of : Held → List ℕ
bytes_of (Short text) = text.bytes
bytes_of (Long text) = string_bytes text
