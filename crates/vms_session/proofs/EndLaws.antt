-- Each session has a trace and an end, and a script leaves one of them.
use Rattle.vms_session.proofs.Facade
use Facade.{AreLines, Back, Bool, Does, Happens, HasAnEnd, Held, HoldsAll, HoldsBytes, IsLine, IsLoaded, IsOneCourse, IsSound, IsTooLarge, List, MaySaveIn}
use Facade.{NEWEST, None, Option, Part, Plays, PutsUnder, ReadsBytes, Refused, Restore, Restores, Saves, ScriptLine, Session, SessionsAreOne, SessionsEnd, Some}
use Facade.{State, [], arith, bytes_eq, bytes_eq-Decides, false, if◌then◌else◌, is_set_of, isa, isa_laws, length, longest_file, missing_line, nat_lt}
use Facade.{nat_tests, part_of, puts_bytes, refl, refused_line, restored_line, saved_line, saved_stream, shipped_set, step, streams_are_bytes, subst}
use Facade.{too_large_line, trace_line, true, ℕ, ◌∙◌, ◌∷◌, ◌≡◌, ◌≤◌}
use Rattle.vms_session.proofs.SoundLaws.{comes, line_level, load_keeps, one_end, sessions_stay_sound}
use Rattle.vms_script.specs.Lines.{Restores as Loads}
use Rattle.dev_base.proofs.RuleLaws.{either}
use Rattle.std.proofs.lemmas.Bool.{false_from_ne_true}

-- ---- what bytes restore

-- bytes for which a restore has a result
abbrev pub Comes : ℕ → List ℕ → Type 0
Comes level bytes = (restore : Restore State) × Restores isa level bytes restore

-- ---- what a shelf holds

abbrev HeldComes : ℕ → Option (List ℕ) → Type 0
HeldComes level None = Unit {0}
HeldComes level (Some bytes) = Comes level bytes

-- with bytes under a name
abbrev put : Held → List ℕ → List ℕ → Held
put held name bytes other = if bytes_eq other name then Some bytes else held other

puts-under : (held : Held) (name bytes : List ℕ) → PutsUnder held (put held name bytes) name bytes
puts-under held name bytes = record {
  there = rw ((bytes_eq-Decides name name).1 refl) refl;
  others = λ other ne. rw (false_from_ne_true _ (λ e. ne ((bytes_eq-Decides other name).0 e))) refl;
}

-- ---- lines

-- a line does something, and each name still has a result
record LineEnds (line : ScriptLine) (old : Session) : Type 0 where
  text : List ℕ
  new : Session
  does : Does line old text new
  held : (name : List ℕ) → HeldComes old.board.level (new.held name)

abbrev still : (level : ℕ) (held : Held) → Type 0
still level held = (name : List ℕ) → HeldComes level (held name)

restored-ends : (name bytes : List ℕ) (old : Session) (restore : Restore State) → old.held name ≡ Some bytes → length bytes ≤ longest_file
    → Restores isa old.board.level bytes restore → still old.board.level old.held → LineEnds (Loads name) old
restored-ends name bytes old (Back m taken) there few restores held = record {
  text = restored_line taken;
  new = record old { board = m };
  does = rw there (IsLoaded (Back m taken) few restores (record { text_is = refl; new_is = refl }));
  held = held;
}
restored-ends name bytes old (Refused place section reason) there few restores held = record {
  text = refused_line (shipped_set NEWEST) place section reason;
  new = old;
  does = rw there (IsLoaded (Refused place section reason) few restores (record { text_is = refl; new_is = refl }));
  held = held;
}

bytes-end : (name bytes : List ℕ) (old : Session) (b : Bool) → nat_lt longest_file (length bytes) ≡ b → old.held name ≡ Some bytes
    → Comes old.board.level bytes → still old.board.level old.held → LineEnds (Loads name) old
bytes-end name bytes old true e there comes held =
    record {
      text = too_large_line;
      new = old;
      does = rw there (IsTooLarge (grind (arith, nat_tests, e)) (record { text_is = refl; new_is = refl }));
      held = held;
    }
bytes-end name bytes old false e there comes held = restored-ends name bytes old _ there (grind (arith, nat_tests, e)) comes.1 held

held-end : (name : List ℕ) (old : Session) (under : Option (List ℕ)) → old.held name ≡ under → HeldComes old.board.level under
    → still old.board.level old.held → LineEnds (Loads name) old
held-end name old None there comes held = record {
  text = missing_line;
  new = old;
  does = rw there (record { text_is = refl; new_is = refl });
  held = held;
}
held-end name old (Some bytes) there comes held = bytes-end name bytes old _ refl there comes held

pub may_save : (m : State) (set : ℕ) → is_set_of NEWEST m.level set ≡ true → MaySaveIn isa m set
may_save m set e = record { level_le_set = grind (arith, nat_tests, e); set_le_newest = grind (arith, nat_tests, e) }

saved-ends : (set : ℕ) (name : List ℕ) (old : Session) → MaySaveIn isa old.board set → IsSound old.board → still old.board.level old.held
    → LineEnds (Saves set name) old
saved-ends set name old may s held =
    let back = isa_laws.come_back.stream set old.board s may in
    record {
      text = saved_line (length (saved_stream isa set old.board));
      new = record old { held = put old.held name (saved_stream isa set old.board) };
      does = record { text_is = refl; board = refl; held = puts-under _ name _ };
      held = λ other. either (HeldComes old.board.level) (bytes_eq other name) (Some (saved_stream isa set old.board)) (old.held other)
          (Back back.back (length (saved_stream isa set old.board)), back.restores) (held other);
    }

line-ends : (line : ScriptLine) (old : Session) → IsLine (Some old.board.level) line → IsSound old.board → still old.board.level old.held → LineEnds line old
line-ends (Happens event) old good s held = record {
  text = trace_line (step event old.board).0;
  new = record old { board = (step event old.board).1 };
  does = record { text_is = refl; new_is = refl };
  held = held;
}
line-ends (Saves set name) old good s held = saved-ends set name old (may_save old.board set good.0) s held
line-ends (Loads name) old good s held = held-end name old _ refl (held name) held

-- ---- scripts

-- at an unchanged level
lines-end : (level : ℕ) (lines : List ScriptLine) (old : Session) → old.board.level ≡ level → AreLines (Some level) lines → IsSound old.board
    → still level old.held → HasAnEnd lines old
lines-end level [] old at good s held = record { parts = []; new = old; plays = (refl, refl) }
lines-end level (line ∷ lines) old at good s held =
    let first = line-ends line old (rw at good.0) s (rw at held) in
    let same = line_level line old first.text first.new first.does ∙ at in
    let rest = lines-end level lines first.new same good.1 (sessions_stay_sound.line (Some level) line old first.text first.new good.0 first.does s)
    (subst (λ l. still l first.new.held) at first.held) in
    record {
      parts = part_of line first.text first.new ∷ rest.parts;
      new = rest.new;
      plays = (first.text, rest.parts, first.new, first.does, rest.plays, refl);
    }

held-comes : (level : ℕ) (held : Option (List ℕ)) → HoldsBytes held → HeldComes level held
held-comes level None h = tt
held-comes level (Some bytes) h = isa_laws.one.some level bytes h

pub sessions_end : SessionsEnd
sessions_end = record {
  ends = λ lines old good s held.
      lines-end _ lines old refl good s (λ name. held-comes _ _ (held name));
}

-- ---- a script of a session leaves one trace and one session, and the shelf still holds bytes

pub reads_bytes : (line : ScriptLine) (old : Session) → HoldsAll old.held → ReadsBytes line old
reads_bytes line old holds = grind arith

pub line_holds : (line : ScriptLine) (old : Session) (text : List ℕ) (new : Session) → IsLine (Some old.board.level) line → Does line old text new
    → IsSound old.board
    → HoldsAll old.held → HoldsAll new.held
line_holds (Happens event) old text new good does s holds = rw (does.new_is) holds
line_holds (Saves set name) old text new good does s holds =
    puts_bytes _ _ name _ does.held (streams_are_bytes.bytes set old.board s (may_save old.board set good.0)) holds
line_holds (Loads name) old text new good does s holds = rw ((load_keeps (old.held name) old text new does).held) holds

-- ---- scripts

-- what a line leaves for those after it: its level, a sound board, and bytes
pub record Follows (level : ℕ) (after : Session) : Type 0 where
  pub at : after.board.level ≡ level
  pub sound : IsSound after.board
  pub holds : HoldsAll after.held

good-at : (level : ℕ) (line : ScriptLine) (old : Session) → Follows level old → IsLine (Some level) line → IsLine (Some old.board.level) line
good-at level line old f good = rw f.at good

pub line_follows : (level : ℕ) (line : ScriptLine) (old : Session) (text : List ℕ) (new : Session) → IsLine (Some level) line → Does line old text new
    → Follows level old → Follows level new
line_follows level line old text new good does f = record {
  at = cc (line_level line old text new does);
  sound = sessions_stay_sound.line (Some level) line old text new good does f.sound;
  holds = line_holds line old text new (good-at level line old f good) does f.sound f.holds;
}

lines-one : (level : ℕ) (lines : List ScriptLine) (old : Session) (parts parts' : List Part) (new new' : Session) → AreLines (Some level) lines
    → Follows level old
    → Plays lines old parts new → Plays lines old parts' new' → IsOneCourse parts parts' new new'
lines-one level [] old parts parts' new new' are f p q = record { same = cc; ends = cc }
lines-one level (line ∷ lines) old parts parts' new new' are f p q =
    let one = one_end line old p.0 q.0 p.2 q.2 (reads_bytes line old f.holds) p.3 q.3 in
    let rest = lines-one level lines p.2 p.1 q.1 new new' are.1 (line_follows level line old p.0 p.2 are.0 p.3 f) p.4 (rw one.ends q.4) in
    record {
      same = cc (p.5, q.5, rest.same, one.texts, one.ends);
      ends = rest.ends;
    }

lines-follow : (level : ℕ) (lines : List ScriptLine) (old : Session) (parts : List Part) (new : Session) → AreLines (Some level) lines → Follows level old
    → Plays lines old parts new → Follows level new
lines-follow level [] old parts new are f p = rw p.1 f
lines-follow level (line ∷ lines) old parts new are f p = lines-follow level lines p.2 p.1 new are.1 (line_follows level line old p.0 p.2 are.0 p.3 f) p.4

pub sessions_are_one : SessionsAreOne
sessions_are_one = search (arith, lines-one, lines-follow)
