-- The machine that a values text names.
use Rattle.std.specs.Prelude.{◌≡◌, ℕ, ◌<◌, true, false, ◌&&◌, List, [], length, get_or, drop, Option, Some, None, codes}
use Rattle.vms_spec.specs.Streams.{is_one_of}
use Rattle.vms_spec.specs.Spelling.{begins_with, first_line}
use Rattle.vms_spec.specs.ValuesReading.{rest_of}
use Rattle.vms_values.specs.declared.machine.Start.{Start}

-- The result is the number of the machine that a line names, or none.
abbrev pub IsMachineLine : List (List ℕ) → List ℕ → Option ℕ → Type 0
IsMachineLine machines line None = (begins_with (codes "machine ") line && is_one_of machines (drop 8 line)) ≡ false
IsMachineLine machines line (Some m) =
    ((begins_with (codes "machine ") line && is_one_of machines (drop 8 line)) ≡ true) × (m < length machines) × (get_or machines m [] ≡ drop 8 line)

-- The result is the number of the machine `name`.
abbrev pub NamesMachine : List (List ℕ) → List ℕ → Option ℕ → Type 0
NamesMachine machines name None = ⊥
NamesMachine machines name (Some m) = (m < length machines) × (get_or machines m [] ≡ name)

-- The sections begin after the line of the machine, if one is named.
abbrev pub StartsAt : List (List ℕ) → List ℕ → Option (List ℕ) → Start → Type 0
StartsAt machines text None start = (start.machine ≡ None) × (start.lines.line ≡ 1) × (start.lines.rest.now ≡ text)
StartsAt machines text (Some name) start =
    NamesMachine machines name start.machine × (start.lines.line ≡ 2) × (start.lines.rest.now ≡ rest_of (first_line text))
