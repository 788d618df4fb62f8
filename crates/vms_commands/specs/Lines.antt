-- The lines on standard error. See docs/commands.md, "Statuses and error lines".
use Rattle.std.specs.Prelude.{ℕ, List, [], ◌∷◌, ◌++◌, Option, Some, None, codes}
use Rattle.std.specs.List.{slice_get}
use Rattle.std.specs.Fmt.{decimal}
use Rattle.vms_spec.specs.declared.Reason.{Reason}
use Rattle.vms_spec.specs.Reasons.{reason_word, rule_of}
use Rattle.vms_spec.specs.Sets.{Device, Set}

-- The text of a device: its name, a slash and its instance, or a dash if there is none.
abbrev pub device_text : Option Device → List ℕ
device_text None = codes "-"
device_text (Some d) = d.desc.name ++ (codes "/" ++ decimal d.instance)

-- The text of device `section` of a set, or a dash if there is none.
abbrev pub section_text : Set → Option ℕ → List ℕ
section_text set None = codes "-"
section_text set (Some k) = device_text (slice_get set.devices k)

-- The number of a device's rule after a space, or nothing.
abbrev pub rule_text : Option ℕ → List ℕ
rule_text None = []
rule_text (Some rule) = codes " " ++ decimal rule

-- The name of a reason and, for a device's rule, its number.
abbrev pub reason_text : Reason → List ℕ
reason_text reason = reason_word reason ++ rule_text (rule_of reason)

-- The line of a refusal: its offset, its device and its reason, each after a text.
abbrev pub refusal_text : List ℕ → List ℕ → List ℕ → Set → ℕ → Option ℕ → Reason → List ℕ
refusal_text before_place before_device before_reason set place section reason =
    before_place ++ (decimal place ++ (before_device ++ (section_text set section ++ (before_reason ++ (reason_text reason ++ 10 ∷ [])))))

-- The line of a refused stream: the offset, the device and the reason.
abbrev pub refused_line : Set → ℕ → Option ℕ → Reason → List ℕ
refused_line = refusal_text (codes "refused at ") (codes " in ") (codes ": ")

-- The line of arguments that form no command.
abbrev pub bad_words : List ℕ
bad_words = codes "bad words" ++ 10 ∷ []

-- The line of a failed input.
abbrev pub read_fault : List ℕ
read_fault = codes "read fault" ++ 10 ∷ []

-- The line of a failed output.
abbrev pub write_fault : List ℕ
write_fault = codes "write fault" ++ 10 ∷ []

-- The line of a lack of memory.
abbrev pub out_of_memory : List ℕ
out_of_memory = codes "out of memory" ++ 10 ∷ []

-- The line of a failed shelf.
abbrev pub shelf_fault : List ℕ
shelf_fault = codes "shelf fault" ++ 10 ∷ []

-- The line of a name that isn't on the shelf.
abbrev pub not_there_line : List ℕ → List ℕ
not_there_line name = codes "not there: " ++ (name ++ 10 ∷ [])

-- The line of a name whose file is larger than its limit.
abbrev pub too_large_line : List ℕ → List ℕ
too_large_line name = codes "too large: " ++ (name ++ 10 ∷ [])
