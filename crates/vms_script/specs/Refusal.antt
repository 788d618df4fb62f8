-- Where a script is refused, and the law that this is its first bad line.
use Rattle.std.specs.Prelude.{◌≡◌, ℕ, ◌+◌, ◌<◌, ◌++◌, List, length, Option, Some, None, Ok, Err}
use Rattle.vms_spec.specs.Spelling.{first_line}
use Rattle.vms_script.specs.Grammar.{AreLines, script_text}
use Rattle.vms_script.specs.Lines.{ScriptLine, Read, line_read}
use Rattle.vms_script.specs.Script.{BadLine, script_read}
use Rattle.vms_script.specs.declared.line.ScriptReason.{ScriptReason}
use Rattle.vms_script.specs.declared.line.ScriptReason.TheVariants as reasons

-- The reason of a line without a line feed: what else is wrong with it, or only that.
abbrev pub unended_reason : Read → ScriptReason
unended_reason (Ok line) = reasons.NoEnd
unended_reason (Err reason) = reason

-- A line that ends is refused for its own reason. A line without a line feed is refused in any case.
abbrev pub IsBadHere : Option ℕ → List ℕ → Option (List ℕ × List ℕ) → ScriptReason → Type 0
IsBadHere play left (Some (line, after)) reason = line_read play line ≡ Err reason
IsBadHere play left None reason =
    (0 < length left) × (reason ≡ unended_reason (line_read play left))

-- Good lines, followed by a bad one. It has the next number after theirs, where the first line has the number
-- `first`.
pub record IsRefused (play : Option ℕ) (first : ℕ) (text : List ℕ) (fault : BadLine) : Type 0 where
  pub before : List ScriptLine
  pub left : List ℕ
  pub good : AreLines play before
  pub whole : text ≡ script_text before ++ left
  pub number : fault.line ≡ length before + first
  pub bad : IsBadHere play left (first_line left) fault.reason

-- A text is refused at the first bad line.
pub record RefusesFirst : Type 0 where
  pub at : (play : Option ℕ) (text : List ℕ) (fault : BadLine) → script_read play text ≡ Err fault
      → IsRefused play 1 text fault
