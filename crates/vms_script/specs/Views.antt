-- What the code's lines, parts of lines and results mean.
use Rattle.std.specs.Prelude.{◌≡◌, ℕ, ◌^◌, nat_lt, if◌then◌else◌, List, [], ◌∷◌, ◌++◌, map, Option, Some, None, Result, Ok, Err, ℤ, pos, negsuc}
use Rattle.arrayvec.specs.ArrayString.{ArrayString}
use Rattle.dev_board.specs.declared.event.Event as board_events
use Rattle.vms_script.specs.Lines.{ScriptLine, Happens, Saves, Restores, Read}
use Rattle.vms_script.specs.Script.{Reading}
use Rattle.vms_script.specs.declared.kept.Unkept.{Unkept}
use Rattle.vms_script.specs.declared.kept.Unkept.TheVariants as unkept
use Rattle.vms_script.specs.declared.line.Line.{Line}
use Rattle.vms_script.specs.declared.line.Line.TheVariants.{Event, Session}
use Rattle.vms_script.specs.declared.line.SessionLine.{SessionLine}
use Rattle.vms_script.specs.declared.line.SessionLine.TheVariants.{Save, Restore}
use Rattle.vms_script.specs.declared.line.ScriptReason.{ScriptReason}
use Rattle.vms_script.specs.declared.line.ScriptReason.TheVariants as reasons
use Rattle.vms_script.specs.declared.line.ScriptFault.{ScriptFault}
use Rattle.vms_script.specs.declared.line.ScriptFault.TheVariants.{Bad, NoMemory}

-- A line that only a session has, with its name as bytes.
abbrev pub session_view : SessionLine → ScriptLine
session_view (Save set name) = Saves set name.bytes
session_view (Restore name) = Restores name.bytes

-- A line, with its name as bytes.
abbrev pub line_view : Line → ScriptLine
line_view (Event event) = Happens event
line_view (Session line) = session_view line.value

-- Lines, with their names as bytes.
abbrev pub lines_view : List Line → List ScriptLine
lines_view lines = map line_view lines

-- Events, as the lines of a script.
abbrev pub event_lines : List board_events.Event → List ScriptLine
event_lines events = map Happens events

-- A line that only a session has, as it was read, or its reason.
abbrev pub read_view : Result SessionLine ScriptReason → Read
read_view (Ok line) = Ok (session_view line)
read_view (Err reason) = Err reason

-- Why nothing is kept of a line: it is refused for its reason, or memory ran out.
abbrev pub IsUnread : Read → Unkept → Type 0
IsUnread read (unkept.Refused reason) = read ≡ Err reason
IsUnread read unkept.NoMemory = Unit {0}

-- What is kept of a line is what it says.
abbrev pub IsKept : {L : Type 0} → (L → ScriptLine) → Read → Result L Unkept → Type 0
IsKept said read (Ok line) = read ≡ Ok (said line)
IsKept said read (Err fault) = IsUnread read fault

-- What is read of a line is after the lines before it.
abbrev pub IsPut : Read → List ScriptLine → List ScriptLine → Type 0
IsPut (Ok line) old new = new ≡ old ++ line ∷ []
IsPut (Err reason) old new = ⊥

-- Line `n` is refused for its reason, or memory ran out.
abbrev pub IsRefusal : Read → ℕ → ScriptFault → Type 0
IsRefusal read number NoMemory = Unit {0}
IsRefusal (Ok line) number (Bad n reason) = ⊥
IsRefusal (Err why) number (Bad n reason) = (n ≡ number) × (reason ≡ why)

-- An event that was read, or the reason of its line.
abbrev pub event_view : Result board_events.Event ScriptReason → Read
event_view (Ok event) = Ok (Happens event)
event_view (Err reason) = Err reason

-- What the code's event is, if the line is one; else what another line says.
abbrev pub event_or : Read → Option (Result board_events.Event ScriptReason) → Read
event_or other None = other
event_or other (Some event) = event_view event

-- A name, if there is one.
abbrev pub name_view : Option ArrayString → Option (List ℕ)
name_view None = None
name_view (Some name) = Some name.bytes

-- A number below 2 ^ 64. Any other number that a text spells is out of every range.
abbrev pub small_number : ℤ → Result ℕ ScriptReason
small_number (pos n) = if nat_lt n (2 ^ 64) then Ok n else Err reasons.Range
small_number (negsuc n) = Err reasons.Range

-- A number below 2 ^ 64, or why a text isn't one.
abbrev pub number_read : Option ℤ → Result ℕ ScriptReason
number_read None = Err reasons.Form
number_read (Some z) = small_number z

-- A number, if it is below 2 ^ 64.
abbrev pub below_2_64 : ℕ → Option ℕ
below_2_64 n = if nat_lt n (2 ^ 64) then Some n else None

-- A text says exactly these lines.
abbrev pub SaysLines : Reading → List ScriptLine → Type 0
SaysLines (Ok said) lines = lines ≡ said
SaysLines (Err fault) lines = ⊥

-- A text is refused at exactly this line for this reason.
abbrev pub IsBadAt : Reading → ℕ → ScriptReason → Type 0
IsBadAt (Ok said) line reason = ⊥
IsBadAt (Err fault) line reason = (line ≡ fault.line) × (reason ≡ fault.reason)

-- The lines or the first bad one; or memory ran out.
abbrev pub ReadsLines : {V : Type 0} → (V → List ScriptLine) → Reading → Result V ScriptFault → Type 0
ReadsLines lines reading (Ok v) = SaysLines reading (lines v)
ReadsLines lines reading (Err (Bad line reason)) = IsBadAt reading line reason
ReadsLines lines reading (Err NoMemory) = Unit {0}

-- The same for the code's lines.
abbrev pub ReadsAs : {V : Type 0} → (V → List Line) → Reading → Result V ScriptFault → Type 0
ReadsAs items reading result = ReadsLines (λ v. lines_view (items v)) reading result
