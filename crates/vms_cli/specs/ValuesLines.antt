-- The line of a refused values text. See docs/commands.md, "Statuses and error lines".
use Rattle.std.specs.Prelude.{ℕ, List, [], ◌∷◌, ◌++◌, codes}
use Rattle.std.specs.Fmt.{decimal}
use Rattle.vms_spec.specs.declared.ValuesReason.{ValuesReason}
use Rattle.vms_spec.specs.declared.ValuesReason.TheVariants as values

-- The name of a reason.
abbrev pub values_reason_text : ValuesReason → List ℕ
values_reason_text values.Form = codes "Form"
values_reason_text values.Number = codes "Number"
values_reason_text values.Count = codes "Count"
values_reason_text values.Absent = codes "Absent"
values_reason_text values.Invalid = codes "Invalid"
values_reason_text values.Needed = codes "Needed"

-- The line of a values text that is refused at a line.
abbrev pub values_line : ℕ → ValuesReason → List ℕ
values_line line reason = codes "values line " ++ (decimal line ++ (codes ": " ++ (values_reason_text reason ++ 10 ∷ [])))
