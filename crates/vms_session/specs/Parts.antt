-- A session line by line: what each line writes, and what the shelf holds after it.
use Rattle.std.specs.Prelude.{◌≡◌, ℕ, List, [], ◌∷◌, Option, Some, None}
use Rattle.vms_commands.specs.Outcomes.{Part}
use Rattle.vms_script.specs.Lines.{ScriptLine, Saves}
use Rattle.vms_session.specs.Session.{Session, Does}

-- The name under which a line stores, if it stores.
abbrev pub stored_by : ScriptLine → Option (List ℕ)
stored_by (Saves set name) = Some name
stored_by line = None

-- The part of a line, with its text and the session after it.
abbrev pub part_of : ScriptLine → List ℕ → Session → Part
part_of line text after = record { text = text; held = Some after.held; stores = stored_by line }

-- What lines do, one after the other: a part for each, and the session after the last one. Their trace is the text
-- of the parts.
abbrev pub Plays : List ScriptLine → Session → List Part → Session → Type 0
Plays [] old parts new = (parts ≡ []) × (new ≡ old)
Plays (line ∷ lines) old parts new =
    (text : List ℕ) × (rest : List Part) × (between : Session)
    × Does line old text between × Plays lines between rest new × (parts ≡ part_of line text between ∷ rest)
