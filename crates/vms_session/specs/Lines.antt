-- The lines that a session's own lines leave in its trace. See docs/scripts.md, "Sessions".
use Rattle.std.specs.Prelude.{ℕ, List, [], ◌∷◌, ◌++◌, Option, codes}
use Rattle.std.specs.Fmt.{decimal}
use Rattle.vms_commands.specs.Lines.{refusal_text}
use Rattle.vms_spec.specs.Sets.{Set}
use Rattle.vms_spec.specs.declared.Reason.{Reason}

-- The line of a stored stream, with the number of its bytes.
abbrev pub saved_line : ℕ → List ℕ
saved_line count = codes "saved " ++ (decimal count ++ 10 ∷ [])

-- The line of a restored stream, with the number of its bytes.
abbrev pub restored_line : ℕ → List ℕ
restored_line count = codes "restored " ++ (decimal count ++ 10 ∷ [])

-- The line of a name that isn't there.
abbrev pub missing_line : List ℕ
missing_line = codes "missing\n"

-- The line of a name that holds more than a restore reads.
abbrev pub too_large_line : List ℕ
too_large_line = codes "too large\n"

-- The line of a refused stream.
abbrev pub refused_line : Set → ℕ → Option ℕ → Reason → List ℕ
refused_line = refusal_text (codes "refused ") (codes " ") (codes " ")
