-- What a script says: its lines, or its first bad line and the reason.
use Rattle.std.specs.Prelude.{ℕ, ◌+◌, ◌==◌, if◌then◌else◌, List, [], ◌∷◌, Option, Result, Ok, Err}
use Rattle.vms_script.specs.Lines.{ScriptLine, Read, line_read}
use Rattle.vms_script.specs.declared.line.ScriptReason.{ScriptReason}
use Rattle.vms_script.specs.declared.line.ScriptReason.TheVariants as reasons

-- The lines of a text, each without its line feed, and the rest after the last line feed.
pub record Split : Type 0 where
  pub lines : List (List ℕ)
  pub tail : List ℕ

-- The split text with one byte more at its front, which isn't a line feed.
abbrev pub begun : ℕ → List (List ℕ) → List ℕ → Split
begun b [] tail = record { lines = []; tail = b ∷ tail }
begun b (line ∷ lines) tail = record { lines = (b ∷ line) ∷ lines; tail = tail }

-- The split text with one byte more at its front.
abbrev pub more_text : ℕ → Split → Split
more_text b split =
    if b == 10 then record { lines = [] ∷ split.lines; tail = split.tail }
    else begun b split.lines split.tail

-- A text, split into lines.
abbrev pub lines_of : List ℕ → Split
lines_of [] = record { lines = []; tail = [] }
lines_of (b ∷ text) = more_text b (lines_of text)

-- A line, counted from 1, and the reason.
pub record BadLine : Type 0 where
  pub line : ℕ
  pub reason : ScriptReason

-- What is read of a script.
abbrev pub Reading : Type 0
Reading = Result (List ScriptLine) BadLine

-- A script that is refused at a line.
abbrev pub bad : ℕ → ScriptReason → Reading
bad number reason = Err (record { line = number; reason = reason })

-- A line, and those after it if they are good.
abbrev pub also : ScriptLine → Reading → Reading
also line (Ok lines) = Ok (line ∷ lines)
also line (Err fault) = Err fault

-- A line that is read, and those after it.
abbrev pub with_line : ℕ → Read → Reading → Reading
with_line number (Ok line) later = also line later
with_line number (Err reason) later = bad number reason

-- The rest after the last line feed: nothing, or a line without its end.
abbrev pub unended : ℕ → Read → Reading
unended number (Ok line) = bad number reasons.NoEnd
unended number (Err reason) = bad number reason

-- The same, by its text.
abbrev pub tail_read : Option ℕ → ℕ → List ℕ → Reading
tail_read play number [] = Ok []
tail_read play number (b ∷ tail) = unended number (line_read play (b ∷ tail))

-- The lines from number `n` on.
abbrev pub lines_read : Option ℕ → ℕ → List (List ℕ) → List ℕ → Reading
lines_read play number [] tail = tail_read play number tail
lines_read play number (line ∷ lines) tail =
    with_line number (line_read play line) (lines_read play (number + 1) lines tail)

-- A text whose first line has number `n`.
abbrev pub text_read : Option ℕ → ℕ → List ℕ → Reading
text_read play number text = lines_read play number (lines_of text).lines (lines_of text).tail

-- What a script says; of a session on a board of the level, if one is given.
unfoldable pub script_read : Option ℕ → List ℕ → Reading
script_read play text = text_read play 1 text
