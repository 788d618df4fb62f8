-- The spelling of a script, and the law that exactly such texts are read. docs/scripts.md lists the lines.
use Rattle.std.specs.Prelude.{◌≡◌, ℕ, ◌/◌, ◌%◌, ◌<◌, ◌++◌, true, List, [], ◌∷◌, codes, Option, Some, None, Ok}
use Rattle.std.specs.Fmt.{decimal}
use Rattle.dev_board.specs.declared.event.Event.{Event}
use Rattle.dev_board.specs.declared.event.Event.TheVariants.{Read, Write, Byte, Wait, Wire, Ack}
use Rattle.dev_board.specs.Wires.{is_wire}
use Rattle.dev_base.specs.declared.limits.TheConstants.{NEWEST}
use Rattle.vms_script.specs.Lines.{ScriptLine, Happens, Saves, Restores, is_wait, is_set_of}
use Rattle.vms_script.specs.Names.{is_shelf_name}
use Rattle.vms_script.specs.Script.{script_read}
use Rattle.vms_script.specs.Trace.{level_text}
use Rattle.vms_script.specs.Words.{byte_text}

-- A port as four hexadecimal digits.
abbrev pub port_text : ℕ → List ℕ
port_text port = byte_text (port / 256) ++ byte_text (port % 256)

-- The line of an event, without its line feed.
abbrev pub event_text : Event → List ℕ
event_text (Read port) = codes "in " ++ port_text port
event_text (Write port value) = codes "out " ++ (port_text port ++ (codes " " ++ byte_text value))
event_text (Byte value) = codes "byte " ++ byte_text value
event_text (Wait ns) = codes "wait " ++ decimal ns
event_text (Wire input up) = codes "wire " ++ (decimal input ++ (codes " " ++ level_text up))
event_text Ack = codes "ack"

-- A line, without its line feed.
abbrev pub line_text : ScriptLine → List ℕ
line_text (Happens event) = event_text event
line_text (Saves set name) = codes "save @" ++ (decimal set ++ (codes " " ++ name))
line_text (Restores name) = codes "restore " ++ name

-- The lines of a script, each with its line feed.
abbrev pub script_text : List ScriptLine → List ℕ
script_text [] = []
script_text (line ∷ lines) = line_text line ++ 10 ∷ script_text lines

-- The numbers of an event are in their ranges.
abbrev pub IsEvent : Event → Type 0
IsEvent (Read port) = port < 65536
IsEvent (Write port value) = (port < 65536) × (value < 256)
IsEvent (Byte value) = value < 256
IsEvent (Wait ns) = is_wait ns ≡ true
IsEvent (Wire input up) = is_wire input ≡ true
IsEvent Ack = Unit {0}

-- A valid line of a script; of a session on a board of the level, if one is given.
abbrev pub IsLine : Option ℕ → ScriptLine → Type 0
IsLine play (Happens event) = IsEvent event
IsLine None (Saves set name) = ⊥
IsLine (Some level) (Saves set name) = (is_set_of NEWEST level set ≡ true) × (is_shelf_name name ≡ true)
IsLine None (Restores name) = ⊥
IsLine (Some level) (Restores name) = is_shelf_name name ≡ true

-- All lines are valid.
abbrev pub AreLines : Option ℕ → List ScriptLine → Type 0
AreLines play [] = Unit {0}
AreLines play (line ∷ lines) = IsLine play line × AreLines play lines

-- Exactly the texts of such lines are read, and as these lines.
pub record ReadsExactly : Type 0 where
  pub spelled : (play : Option ℕ) (lines : List ScriptLine) → AreLines play lines
      → script_read play (script_text lines) ≡ Ok lines
  pub only : (play : Option ℕ) (text : List ℕ) (lines : List ScriptLine)
      → script_read play text ≡ Ok lines → AreLines play lines × (text ≡ script_text lines)
