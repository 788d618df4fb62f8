-- Laws of sessions that contracts name.
use Rattle.std.specs.Prelude.{◌≡◌, ℕ, ◌<◌, ◌≤◌, List, ◌∷◌, length, Option, Some, None}
use Rattle.dev_base.specs.declared.limits.TheConstants.{NEWEST}
use Rattle.dev_board.specs.Sound.{IsSound}
use Rattle.vms_board.specs.Isa.{isa}
use Rattle.vms_board.specs.Restoring.{Refused, Restores}
use Rattle.vms_desc.specs.Formed.{shipped_set}
use Rattle.vms_io.specs.Shelves.{Held, HoldsAll, HoldsBytes}
use Rattle.vms_kinds.specs.Bytes.{IsBytes}
use Rattle.vms_script.specs.Grammar.{IsLine, AreLines}
use Rattle.vms_script.specs.Lines.{ScriptLine, Restores as Loads}
use Rattle.vms_spec.specs.declared.Reason.{Reason}
use Rattle.vms_commands.specs.Fetching.{longest_file}
use Rattle.vms_commands.specs.Outcomes.{Part}
use Rattle.vms_session.specs.Lines.{missing_line, too_large_line, refused_line}
use Rattle.vms_session.specs.Parts.{part_of, Plays}
use Rattle.vms_session.specs.Session.{Session, Leaves, Does}

-- A restore that brings no board back, with its text: the name holds nothing, or too much, or a stream that is
-- refused.
pub data BringsNone (name : List ℕ) (old : Session) (text : List ℕ) : Type 0 where
  IsMissing : old.held name ≡ None → text ≡ missing_line → BringsNone name old text
  IsLarge : (bytes : List ℕ) → old.held name ≡ Some bytes → longest_file < length bytes → text ≡ too_large_line
      → BringsNone name old text
  IsRefused : (bytes : List ℕ) (place : ℕ) (section : Option ℕ) (reason : Reason) → old.held name ≡ Some bytes → IsBytes bytes
      → length bytes ≤ longest_file → Restores isa old.board.level bytes (Refused place section reason)
      → text ≡ refused_line (shipped_set NEWEST) place section reason → BringsNone name old text

-- The lines after a line of this text do what they do without it, on the unchanged session.
pub record GoesOnWithout (line : ScriptLine) (lines : List ScriptLine) (old : Session) (text : List ℕ) (parts : List Part) (new : Session) : Type 0 where
  pub later : List Part
  pub parts_are : parts ≡ part_of line text old ∷ later
  pub plays : Plays lines old later new

-- Such a restore leaves its text and the session unchanged, and so all later lines are those of the session without
-- it.
pub record RefusalsLeave : Type 0 where
  pub leaves : (name : List ℕ) (old : Session) (text said : List ℕ) (new : Session) → BringsNone name old text
      → Does (Loads name) old said new → Leaves text old said new
  pub later : (name : List ℕ) (lines : List ScriptLine) (old : Session) (text : List ℕ) (parts : List Part) (new : Session)
      → BringsNone name old text → Plays (Loads name ∷ lines) old parts new → GoesOnWithout (Loads name) lines old text parts new

-- Lines never change the board's level.
pub record LevelStays : Type 0 where
  pub level : (lines : List ScriptLine) (old : Session) (parts : List Part) (new : Session) → Plays lines old parts new
      → new.board.level ≡ old.board.level

-- Each line and each script of a session keep the board sound.
pub record SessionsStaySound : Type 0 where
  pub line : (play : Option ℕ) (line : ScriptLine) (old : Session) (text : List ℕ) (new : Session) → IsLine play line
      → Does line old text new → IsSound old.board → IsSound new.board
  pub lines : (play : Option ℕ) (lines : List ScriptLine) (old : Session) (parts : List Part) (new : Session) → AreLines play lines
      → Plays lines old parts new → IsSound old.board → IsSound new.board

-- The lines have parts, and a session after them.
pub record HasAnEnd (lines : List ScriptLine) (old : Session) : Type 0 where
  pub parts : List Part
  pub new : Session
  pub plays : Plays lines old parts new

-- This is so for all lines of a session of the board's level, if the board is sound and the shelf holds bytes.
pub record SessionsEnd : Type 0 where
  pub ends : (lines : List ScriptLine) (old : Session) → AreLines (Some old.board.level) lines → IsSound old.board
      → HoldsAll old.held → HasAnEnd lines old

-- What a line reads from the shelf are bytes.
abbrev pub ReadsBytes : ScriptLine → Session → Type 0
ReadsBytes (Loads name) old = HoldsBytes (old.held name)
ReadsBytes line old = Unit {0}

-- Two ends of a line are the same: the texts, the boards, and what the shelf holds under each name.
pub record IsOneEnd (text text' : List ℕ) (new new' : Session) : Type 0 where
  pub texts : text ≡ text'
  pub ends : new ≡ new'

-- Two ends of one line are the same.
pub record LinesAreOne : Type 0 where
  pub line : (line : ScriptLine) (old : Session) (text text' : List ℕ) (new new' : Session) → ReadsBytes line old
      → Does line old text new → Does line old text' new' → IsOneEnd text text' new new'

-- Two runs of a script are the same: the parts, and the sessions after them.
pub record IsOneCourse (parts parts' : List Part) (new new' : Session) : Type 0 where
  pub same : parts ≡ parts'
  pub ends : new ≡ new'

-- A script of a session of the board's level does one thing and leaves one session, if the board is sound and the
-- shelf holds bytes. It holds bytes afterwards too.
pub record SessionsAreOne : Type 0 where
  pub one : (lines : List ScriptLine) (old : Session) (parts parts' : List Part) (new new' : Session)
      → AreLines (Some old.board.level) lines → IsSound old.board → HoldsAll old.held
      → Plays lines old parts new → Plays lines old parts' new' → IsOneCourse parts parts' new new'
  pub holds : (lines : List ScriptLine) (old : Session) (parts : List Part) (new : Session)
      → AreLines (Some old.board.level) lines → IsSound old.board → HoldsAll old.held
      → Plays lines old parts new → HoldsAll new.held
