-- The line of an answer in a trace. See docs/scripts.md, "The trace".
use Rattle.std.specs.Prelude.{ℕ, ◌++◌, if◌then◌else◌, Bool, List, [], ◌∷◌, codes, Option, Some, None}
use Rattle.dev_board.specs.declared.event.Answer.{Answer}
use Rattle.vms_script.specs.Words.{byte_text}

-- The value as two hexadecimal digits, or `--`.
abbrev pub value_text : Option ℕ → List ℕ
value_text None = codes "--"
value_text (Some value) = byte_text value

-- The interrupt output as `1` or `0`.
abbrev pub level_text : Bool → List ℕ
level_text up = if up then codes "1" else codes "0"

-- Bytes as hexadecimal digits.
abbrev pub bytes_text : List ℕ → List ℕ
bytes_text [] = []
bytes_text (b ∷ bytes) = byte_text b ++ bytes_text bytes

-- A space and the digits of the sent bytes, if there are any.
abbrev pub sent_text : List ℕ → List ℕ
sent_text [] = []
sent_text (b ∷ bytes) = codes " " ++ bytes_text (b ∷ bytes)

-- The value, a space, the interrupt output, the sent bytes, and the line feed.
unfoldable pub trace_line : Answer → List ℕ
trace_line answer =
    value_text answer.value ++ codes " " ++ level_text answer.int
    ++ sent_text answer.sent.items ++ codes "\n"
