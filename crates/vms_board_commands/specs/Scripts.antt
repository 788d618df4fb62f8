-- The script of a command: it is fetched from the shelf and read.
use Rattle.std.specs.Prelude.{ℕ, List, [], ◌∷◌, ◌++◌, codes, Option, Ok, Err}
use Rattle.std.specs.Fmt.{decimal}
use Rattle.vms_io.specs.Shelves.{Held}
use Rattle.vms_commands.specs.Fetching.{fetched}
use Rattle.vms_commands.specs.Steps.{Step, Gives, Ends, next}
use Rattle.vms_script.specs.Lines.{ScriptLine}
use Rattle.vms_script.specs.Script.{Reading, script_read}
use Rattle.vms_script.specs.declared.line.ScriptReason.{ScriptReason}
use Rattle.vms_script.specs.declared.line.ScriptReason.TheVariants as reasons
use Rattle.vms_board_commands.specs.declared.scripts.TheConstants.{LONGEST_SCRIPT}

-- The length of the longest script, in bytes.
abbrev pub longest_script : ℕ
longest_script = LONGEST_SCRIPT

-- The word for a reason.
abbrev pub script_reason_text : ScriptReason → List ℕ
script_reason_text reasons.Form = codes "Form"
script_reason_text reasons.Range = codes "Range"
script_reason_text reasons.NoEnd = codes "NoEnd"

-- The line that reports a refused script.
abbrev pub script_line : ℕ → ScriptReason → List ℕ
script_line line reason =
    codes "script line " ++ (decimal line ++ (codes ": " ++ (script_reason_text reason ++ 10 ∷ [])))

-- The lines of a text, or its first invalid one.
abbrev pub said_lines : Reading → Step (List ScriptLine)
said_lines (Ok lines) = Gives lines
said_lines (Err fault) = Ends 3 (script_line fault.line fault.reason)

-- The lines of the script `name`, for a session on a board of the level `play`, if there is one.
abbrev pub scripted : Option ℕ → Option Held → List ℕ → Step (List ScriptLine)
scripted play held name = next (fetched longest_script held name) (λ text. said_lines (script_read play text))
