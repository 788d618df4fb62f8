-- What a line of a session does: one thing, which keeps the level and a sound board.
use Rattle.vms_session.proofs.Facade
use Facade.{AreBoardCells, AreLines, Back, Bool, BringsNone, ComesTo, Device, Does, EachOnce, Err, Event, GoesOnWithout, Happens, HasSection, Held, HoldsBytes}
use Facade.{Image, IsBytes, IsEvent, IsLarge, IsLevel, IsLine, IsLoaded, IsMissing, IsNormal, IsOneEnd, IsRefused, IsSound, IsTooLarge, Leaves, LevelStays}
use Facade.{LinesAreOne, LinesEnd, List, LoadsBytes, LoadsHeld, NEWEST, None, Ok, Option, Outlet, Part, PlayFault, Plays, PutsUnder, ReadsBytes, RefusalsLeave}
use Facade.{Refused, Restore, Restores, Result, Saves, ScriptLine, SectionsSpell, Session, SessionsStaySound, Set, Some, State, Stock, TakesBoard, WriteFault}
use Facade.{WritesText, [], ap, append-nil, arith, bytes_eq, bytes_eq-Decides, cells_in, clock_goes_on, false, inl, inr, isa, isa_laws, length, longest_file}
use Facade.{map, none_left, normal_may_be_restored, part_of, refl, restored_is_sound, shipped_set, slice_get, slice_set, sound_stays_on, step, suc, sym}
use Facade.{trace_line, true, zero, ℕ, ◌∙◌, ◌∷◌, ◌≡◌, ◌≢◌, ◌≤◌, ◌⊎◌}
use Rattle.std.proofs.{Common.⊎_elim, lemmas.Bool.cases_Bool}
use Rattle.vms_script.specs.{Grammar.IsEvent as IsSpelled, Lines.Restores as Loads}

-- ---- each device of a stream that is taken has a normal image

set-or-same : (came : List Bool) (j k : ℕ) → (k ≡ j) ⊎ (slice_get (slice_set came j true) k ≡ slice_get came k)
set-or-same (c ∷ came) zero zero = inl refl
set-or-same (c ∷ came) (suc j) (suc k) = elim (set-or-same came j k) [ inl e ↦ inl (ap suc e) | inr e ↦ inr e ]
set-or-same _ _ _ = inr refl

not-yet : (devices : List Device) (k : ℕ) (d : Device) → slice_get devices k ≡ Some d → slice_get (map (λ (e : Device). false) devices) k ≡ Some false
not-yet [] k d e = cc
not-yet (x ∷ devices) zero d e = refl
not-yet (x ∷ devices) (suc k) d e = not-yet devices k d e

of-section : (set : Set) (footed : Bool) (k : ℕ) (device : Option Device) (found : Option Image) (bytes : List ℕ) (d : Device) (image : Image)
    → HasSection set footed k device found bytes → device ≡ Some d → found ≡ Some image → IsNormal set d image
of-section set footed k device found bytes d image h e f = grind arith

normal-in : (set : Set) (footed : Bool) (images : List Image) (order : List ℕ) (came : List Bool) (bytes : List ℕ)
    → EachOnce came order → SectionsSpell set footed images order bytes → (k : ℕ) (d : Device) (image : Image)
    → slice_get came k ≡ Some false → slice_get set.devices k ≡ Some d → slice_get images k ≡ Some image → IsNormal set d image
normal-in set footed images [] came bytes once spelled k d image new here there = absurd (none_left came k once new)
normal-in set footed images (j ∷ order) came bytes once spelled k d image new here there =
    elim (set-or-same came j k) [
      | inl e ↦ of-section set footed j _ _ _ d image spelled.2
          (ap (slice_get set.devices) (sym e) ∙ here) (ap (slice_get images) (sym e) ∙ there)
      | inr e ↦ normal-in set footed images order (slice_set came j true) spelled.1 once.1 spelled.3 k d image (e ∙ new) here there
    ]

pub taken_may_be_restored : (level : ℕ) (bytes : List ℕ) (taken : ℕ) (images : List Image) → TakesBoard isa level bytes taken images
    → AreBoardCells (cells_in images)
taken_may_be_restored level bytes taken images t =
    let stream = t.1.stream in
    normal_may_be_restored.cells images stream.one_each (λ k d image here there.
    normal-in (shipped_set NEWEST) stream.footed images stream.order (map (λ (e : Device). false) (shipped_set NEWEST).devices) stream.sections
    stream.each_once stream.spelled k d image (not-yet (shipped_set NEWEST).devices k d here) here there)

pub back_is_sound : (level : ℕ) (bytes : List ℕ) (m : State) (taken : ℕ) → IsLevel level → Restores isa level bytes (Back m taken) → IsSound m
back_is_sound level bytes m taken l r = restored_is_sound.sound level (cells_in r.0) m l (taken_may_be_restored level bytes taken r.0 r.1) r.2

-- ---- lines

pub event_is : (event : Event) → IsSpelled event → IsEvent event
event_is event h = grind arith

pub line_event : (play : Option ℕ) (event : Event) → IsLine play (Happens event) → IsSpelled event
line_event play event h = grind arith

-- What a restore from the shelf keeps, whatever it brings back.
pub record LoadKeeps (old new : Session) : Type 0 where
  pub held : new.held ≡ old.held
  pub level : new.board.level ≡ old.board.level
  pub sound : IsSound old.board → IsSound new.board

all-kept : (old new : Session) → new ≡ old → LoadKeeps old new
all-kept old new e = rw e (record { held = refl; level = refl; sound = λ s. s })

bytes-keep : (bytes : List ℕ) (old : Session) (text : List ℕ) (new : Session) → LoadsBytes bytes old text new → LoadKeeps old new
bytes-keep bytes old text new (IsTooLarge long left) = all-kept old new left.new_is
bytes-keep bytes old text new (IsLoaded (Back m taken) few restores left) = rw left.new_is (record {
  held = refl;
  level = restored_is_sound.level old.board.level (cells_in restores.0) m restores.2;
  sound = λ s. back_is_sound _ bytes m taken s.devices.level restores;
})
bytes-keep bytes old text new (IsLoaded (Refused place section reason) few restores left) = all-kept old new left.new_is

pub load_keeps : (held : Option (List ℕ)) (old : Session) (text : List ℕ) (new : Session) → LoadsHeld held old text new → LoadKeeps old new
load_keeps None old text new left = all-kept old new left.new_is
load_keeps (Some bytes) old text new loads = bytes-keep bytes old text new loads

pub line_sound : (play : Option ℕ) (line : ScriptLine) (old : Session) (text : List ℕ) (new : Session) → IsLine play line → Does line old text new
    → IsSound old.board → IsSound new.board
line_sound play line old text new good does s = grind (arith, sound_stays_on, event_is, line_event, load_keeps)

lines-sound : (play : Option ℕ) (lines : List ScriptLine) (old : Session) (parts : List Part) (new : Session) → AreLines play lines
    → Plays lines old parts new → IsSound old.board → IsSound new.board
lines-sound play [] old parts new good plays s = rw plays.1 s
lines-sound play (line ∷ lines) old parts new good plays s =
    lines-sound play lines plays.2 plays.1 new good.1 plays.4 (line_sound play line old _ _ good.0 plays.3 s)

pub sessions_stay_sound : SessionsStaySound
sessions_stay_sound = record { line = line_sound; lines = lines-sound }

-- ---- the level of a session never changes

abbrev level_of : Session → ℕ
level_of s = s.board.level

pub line_level : (line : ScriptLine) (old : Session) (text : List ℕ) (new : Session) → Does line old text new → level_of new ≡ level_of old
line_level line old text new does = grind (arith, clock_goes_on, load_keeps)

lines-level : (lines : List ScriptLine) (old : Session) (parts : List Part) (new : Session) → Plays lines old parts new → level_of new ≡ level_of old
lines-level [] old parts new plays = ap level_of plays.1
lines-level (line ∷ lines) old parts new plays = lines-level lines plays.2 plays.1 new plays.4 ∙ line_level line old _ _ plays.3

pub level_stays : LevelStays
level_stays = record { level = lines-level }

-- ---- what bytes are to a restore is one thing, and what a line does is one thing: lines

same-held : (old a b : Held) (name bytes : List ℕ) → PutsUnder old a name bytes → PutsUnder old b name bytes → (other : List ℕ) → a other ≡ b other
same-held old a b name bytes p q other =
    ⊎_elim (λ (e : bytes_eq other name ≡ true). let same : other ≡ name = (bytes_eq-Decides other name).0 e in cc (p.there, q.there))
    (λ (e : bytes_eq other name ≡ false).
    let ne : other ≢ name = λ same. let f = (bytes_eq-Decides other name).1 same in cc (sym e ∙ f) in
    p.others other ne ∙ sym (q.others other ne)) (cases_Bool (bytes_eq other name))

-- what is held after bytes were put under a name is one map
pub one_map : (old a b : Held) (name bytes : List ℕ) → PutsUnder old a name bytes → PutsUnder old b name bytes → a ≡ b
one_map old a b name bytes p q = let same = same-held old a b name bytes p q in λ i other. same other i

abbrev session : State → Held → Session
session board held = record { board = board; held = held }

same-left : (said : List ℕ) (after : Session) (text text' : List ℕ) (new new' : Session) → Leaves said after text new → Leaves said after text' new'
    → IsOneEnd text text' new new'
same-left said after text text' new new' a b = record { texts = cc; ends = cc }

same-bytes : (bytes : List ℕ) (old : Session) (text text' : List ℕ) (new new' : Session) → IsBytes bytes → LoadsBytes bytes old text new
    → LoadsBytes bytes old text' new' → IsOneEnd text text' new new'
same-bytes bytes old text text' new new' ok loads_bytes first = grind (arith, same-left, isa_laws)

same-under : (held : Option (List ℕ)) (old : Session) (text text' : List ℕ) (new new' : Session) → HoldsBytes held → LoadsHeld held old text new
    → LoadsHeld held old text' new' → IsOneEnd text text' new new'
same-under None old text text' new new' ok a b = same-left _ old text text' new new' a b
same-under (Some bytes) old text text' new new' ok a b = same-bytes bytes old text text' new new' ok a b

pub one_end : (line : ScriptLine) (old : Session) (text text' : List ℕ) (new new' : Session) → ReadsBytes line old → Does line old text new
    → Does line old text' new' → IsOneEnd text text' new new'
one_end (Happens event) old text text' new new' ok a b =
    same-left (trace_line (step event old.board).0) (record old { board = (step event old.board).1 }) text text' new new' a b
one_end (Saves set name) old text text' new new' ok a b =
    record { texts = cc; ends = rw (a.board ∙ sym b.board) (ap (session new'.board) (one_map _ _ _ name _ a.held b.held)) }
one_end (Loads name) old text text' new new' ok a b = same-under _ old text text' new new' ok a b

pub lines_are_one : LinesAreOne
lines_are_one = record { line = one_end }

-- ---- The result of a stream on the shelf, and a line that is written.

-- bytes that a board reads have the result of their restore
pub comes : (bytes : List ℕ) (old : Session) (text : List ℕ) (new : Session) (r : Restore State) → IsBytes bytes → length bytes ≤ longest_file
    → Restores isa old.board.level bytes r
    → LoadsBytes bytes old text new → ComesTo r old text new
comes bytes old text new r ok few restores loads_bytes = grind (arith, isa_laws)

-- a line's text is written once the line is done
pub line_ends : (line : ScriptLine) (text mark : List ℕ) (new : Session) (o o' : Outlet) (s s' : Stock) (m : State) (r : Result Unit PlayFault) → mark ≡ text
    → WritesText mark o o' r
    → s'.held ≡ Some new.held → m ≡ new.board → LinesEnd (part_of line text new ∷ []) new o o' s s' m r
line_ends line text mark new o o' s s' m (Ok u) e h held board = (rw (e ∙ sym (append-nil text)) at h.told, held, board)
line_ends line text mark new o o' s s' m (Err WriteFault) e h held board = record { begun = 1; bytes = h.n; text = rw e at h.puts.told; held = held }
line_ends line text mark new o o' s s' m _ e h held board = absurd h

-- ---- What a restore leaves that brings no board back.

leaves-so : (name : List ℕ) (old : Session) (text said : List ℕ) (new : Session) → BringsNone name old text → Does (Loads name) old said new
    → Leaves text old said new
leaves-so name old text said new (IsMissing none is) does = rw is (rw none at does)
leaves-so name old text said new (IsLarge bytes there long is) does = rw is (grind arith)
leaves-so name old text said new (IsRefused bytes place section reason there ok few refused is) does =
    rw is (comes bytes old said new (Refused place section reason) ok few refused (rw there at does))

later-so : (name : List ℕ) (lines : List ScriptLine) (old : Session) (text : List ℕ) (parts : List Part) (new : Session) → BringsNone name old text
    → Plays (Loads name ∷ lines) old parts new → GoesOnWithout (Loads name) lines old text parts new
later-so name lines old text parts new none plays =
    let left = leaves-so name old text _ _ none plays.3 in
    record {
      later = plays.1;
      parts_are = cc (plays.5, left.text_is, left.new_is);
      plays = rw left.new_is at plays.4;
    }

pub refusals_leave : RefusalsLeave
refusals_leave = record { leaves = leaves-so; later = later-so }
