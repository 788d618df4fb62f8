-- Events, parts and lines of a session, one after the other.
use Rattle.vms_session.proofs.Facade
use Facade.{Appends, Appends-nil, Appends-trans, AreEvents, AreLines, Does, DoesSome, Err, Event, FailsToStore, Family, Goes, Happens, Held, HoldsBut, IsEvent}
use Facade.{Line, LinesEnd, List, NoMemory, Ok, Option, Outlet, Part, PlayFault, Plays, Reaches, Read, Result, Rose, Saves, ScriptLine, Serves, Session}
use Facade.{ShelfFault, Some, State, Stock, WriteFault, [], after_by, after_events, answers_by, ap, append-nil, append_assoc, arith, drop, drop_all, drop_more}
use Facade.{event_lines, events_of, get_or, held_after, inl, inr, length, length-append, line_view, lines_view, part_of, reaches_both, refl, serves_both}
use Facade.{session_of, stored_next, suc, sym, take, take_all, text_begun, text_of, trace_from, trace_line, zero, ℕ, ⊎_elim, ◌++◌, ◌+◌, ◌<◌}
use Facade.{◌∙◌, ◌∷◌, ◌≡◌, ◌≤◌}
use Rattle.vms_session.proofs.SoundLaws.{comes, event_is, line_event}
use Rattle.vms_script.specs.Lines.{Restores}
use Rattle.vms_commands.specs.Outcomes.{ComesTo}
use Rattle.std.proofs.Common.{add-one, length-drop}

-- ---- events

abbrev pub event_at : List Event → ℕ → Event
event_at events i = get_or events i (Read 0)

pub left_next : (events : List Event) (i : ℕ) → i < length events → drop i events ≡ event_at events i ∷ drop (i + 1) events
left_next events i lt = drop_more events i (Read 0) lt

pub none_left : (events : List Event) (i : ℕ) → length events ≤ i → drop i events ≡ []
none_left events i le = drop_all i events le

pub first_event : (event : Event) (rest events : List Event) → events ≡ event ∷ rest → AreEvents events → IsEvent event
first_event event rest events e are = (rw e at are).0

pub later_events : (event : Event) (rest events : List Event) → events ≡ event ∷ rest → AreEvents events → AreEvents rest
later_events event rest events e are = (rw e at are).1

-- valid lines of a script have valid events
pub lines_are_events : (play : Option ℕ) (lines : List ScriptLine) → AreLines play lines → AreEvents (events_of lines)
lines_are_events play [] are = tt
lines_are_events play (Happens event ∷ lines) are = (event_is event (line_event play event are.0), lines_are_events play lines are.1)
lines_are_events play (Saves set name ∷ lines) are = lines_are_events play lines are.1
lines_are_events play (Restores name ∷ lines) are = lines_are_events play lines are.1

-- the events of lines that are events
pub events_back : (events : List Event) → events_of (event_lines events) ≡ events
events_back [] = refl
events_back (event ∷ events) = rw (events_back events)

pub are_events : (play : Option ℕ) (events : List Event) → AreLines play (event_lines events) → AreEvents events
are_events play events are = rw (events_back events) at (lines_are_events play _ are)

-- ---- the board

module _ {S : Type 0} (f : Family S) where
  -- An event, and those after it.
  module _ (event : Event) (rest events : List Event) (m m' : S) (e : events ≡ event ∷ rest) (done : m' ≡ (f.step event m).1) where
    pub after_next : after_events f rest m' ≡ after_events f events m
    unfolding after_by
    after_next = cc

    pub trace_next : trace_from f events m ≡ trace_line (f.step event m).0 ++ trace_from f rest m'
    unfolding answers_by
    trace_next = rw (e, done) refl

  pub after_none : (events : List Event) (m : S) → events ≡ [] → after_events f events m ≡ m
  unfolding after_by
  after_none events m e = rw e

  -- ---- the board after some first events

  pub none_yet : (events : List Event) (m : S) → m ≡ after_events f (take 0 events) m
  unfolding after_by
  none_yet events m = refl

  after_more : (events : List Event) (i : ℕ) (m : S) → i < length events
      → after_events f (take (suc i) events) m ≡ (f.step (event_at events i) (after_events f (take i events) m)).1
  unfolding after_by
  after_more [] i m lt = absurd (omega arith)
  after_more (event ∷ events) zero m lt = refl
  after_more (event ∷ events) (suc i) m lt = after_more events i (f.step event m).1 (omega arith)

  pub one_more : (events : List Event) (i : ℕ) (m m' m'' : S) → i < length events → m' ≡ after_events f (take i events) m
      → m'' ≡ (f.step (event_at events i) m').1 → m'' ≡ after_events f (take (i + 1) events) m
  one_more events i m m' m'' lt before done = grind (arith, after_more)

  -- ---- the trace

  pub trace_none : (events : List Event) (m : S) → events ≡ [] → trace_from f events m ≡ []
  unfolding answers_by
  trace_none events m e = rw e

  -- ---- the number of a board, which events keep

  module _ (stays : (event : Event) (m : S) → f.number (f.step event m).1 ≡ f.number m) where
    pub after_number : (events : List Event) (m : S) → f.number (after_events f events m) ≡ f.number m
    unfolding after_by
    after_number [] m = refl
    after_number (event ∷ events) m = after_number events (f.step event m).1 ∙ stays event m

    pub number_next : (event : Event) (m m' : S) → m' ≡ (f.step event m).1 → f.number m' ≡ f.number m
    number_next event m m' done = cc (stays event m)

-- ---- parts of a session, one after the other

-- what is written and held with the part that comes next
record NextPart (part : Part) (rest : List Part) (i : ℕ) (parts : List Part) : Type 0 where
  text : text_of (take (suc i) parts) ≡ text_of (take i parts) ++ part.text
  held : (held : Option Held) → held_after held (take (suc i) parts) ≡ part.held
  rest_is : drop (suc i) parts ≡ rest
  -- a number of its bytes
  begun : (n : ℕ) → text_begun parts (suc i) n ≡ text_of (take i parts) ++ take n part.text

next_part : (part : Part) (rest : List Part) (i : ℕ) (parts : List Part) → drop i parts ≡ part ∷ rest → NextPart part rest i parts
next_part part rest zero (x ∷ parts) e = record { text = cc (append-nil x.text); held = λ held. cc; rest_is = cc; begun = λ n. cc }
next_part part rest (suc i) (x ∷ parts) e =
    let next = next_part part rest i parts e in
    record {
      text = rw (next.text) (sym (append_assoc x.text (text_of (take i parts)) part.text));
      held = λ held. next.held x.held;
      rest_is = next.rest_is;
      begun = λ n. rw (next.begun n) (sym (append_assoc x.text (text_of (take i parts)) (take n part.text)));
    }
next_part part rest zero [] e = cc
next_part part rest (suc i) [] e = cc

-- a number of complete parts
pub begun_whole : (i n : ℕ) (parts : List Part) → length (text_of parts) ≤ n → text_begun parts i n ≡ text_of (take i parts)
begun_whole (suc zero) n (x ∷ parts) le = cc (take_all n x.text (omega (arith, length-append x.text (text_of parts))), append-nil x.text)
begun_whole (suc (suc i)) n (x ∷ parts) le = rw (begun_whole (suc i) n parts (omega (arith, length-append x.text (text_of parts))))
begun_whole _ n _ le = refl

-- ---- lines of a session, one after the other: lines

pub lines_next : (lines : List Line) (i : ℕ) (line : Line) → i < length lines → line ≡ get_or lines i line
    → lines_view (drop i lines) ≡ line_view line ∷ lines_view (drop (i + 1) lines)
lines_next lines i line lt is = cc (drop_more lines i line lt)

-- ---- counts

pub rose_since : (a b c : ℕ) → a ≤ b → Rose b c → Rose a c
rose_since a b c le rose = omega arith

-- what calls before it did
pub goes_since : {out out' out'' : Outlet} {shelf shelf' shelf'' : Stock} {result : Result Unit PlayFault} → Serves out out' → Reaches shelf shelf'
    → Goes out' out'' shelf' shelf'' result → Goes out out'' shelf shelf'' result
goes_since {out} {out'} {out''} {shelf} {shelf'} {shelf''} {result} p q g =
    record { serves = serves_both p g.serves; reaches = reaches_both q g.reaches; cause = grind (arith, rose_since) }

-- ---- a session in its course

-- after the first i lines: what the shelf holds, the parts that are left, and what was written
pub record InCourse (i : ℕ) (left : List ScriptLine) (parts : List Part) (new : Session) (board : State) (out out' : Outlet)
    (shelf shelf' : Stock) : Type 0 where
  pub holds : Held
  pub told : shelf'.held ≡ Some holds
  pub rest : Plays left (session_of board holds) (drop i parts) new
  pub text : Appends out.written out'.written (text_of (take i parts))
  pub held : shelf'.held ≡ held_after shelf.held (take i parts)

pub in_course : (lines : List ScriptLine) (parts : List Part) (new : Session) (board : State) (held : Held) (out : Outlet) (shelf : Stock)
    → shelf.held ≡ Some held → Plays lines (session_of board held) parts new → InCourse 0 lines parts new board out out shelf shelf
in_course lines parts new board held out shelf told plays = record { holds = held; told = told; rest = plays; text = Appends-nil out.written; held = refl }

-- what a line's call says, of each text and session that the line leaves
abbrev pub Content : ScriptLine → State → State → (out out' : Outlet) (shelf shelf' : Stock) → Result Unit PlayFault → Type 0
Content line board board' out out' shelf shelf' result =
    (held : Held) (text : List ℕ) (new : Session) → shelf.held ≡ Some held → Does line (session_of board held) text new
    → LinesEnd (part_of line text new ∷ []) new out out' shelf shelf' board' result

module _ (i : ℕ) (line : ScriptLine) (left : List ScriptLine) (parts : List Part) (new : Session) (board board' : State) (out out' out'' : Outlet)
    (shelf shelf' shelf'' : Stock) (course : InCourse i (line ∷ left) parts new board out out' shelf shelf') where
  abbrev text : List ℕ
  text = course.rest.0

  abbrev between : Session
  between = course.rest.2

  abbrev part : Part
  part = part_of line text between

  next : NextPart part course.rest.1 i parts
  next = next_part _ _ i parts course.rest.5

  pub course_goes : Content line board board' out' out'' shelf' shelf'' (Ok tt) → InCourse (i + 1) left parts new board' out out'' shelf shelf''
  course_goes content =
      let ends = content course.holds text between course.told course.rest.3 in
      rw add-one (record {
        holds = between.held;
        told = ends.1;
        rest = rw ends.2 (rw (next.rest_is) course.rest.4);
        text = rw (next.text) (Appends-trans _ _ _ _ text course.text (rw (append-nil text) at ends.0));
        held = cc (next.held shelf.held);
      })

  -- all of the lines before this one has been written, where this one writes nothing
  behind : Appends out'.written out''.written [] → Appends out.written out''.written (text_of (take i parts))
  behind none = rw (append-nil (text_of (take i parts))) at (Appends-trans _ _ _ _ [] course.text none)

  -- the result of this one is the result of all
  comes_behind : ComesTo out' out'' shelf' shelf'' (part ∷ []) → ComesTo out out'' shelf shelf'' parts
  comes_behind comes = by comes.begun comes.text comes.held
    where
      some : (n : ℕ) → Appends out'.written out''.written (take n text) → shelf''.held ≡ Some between.held → ComesTo out out'' shelf shelf'' parts
      some n begun held = record {
        begun = suc i;
        bytes = n;
        text = rw (next.begun n) (Appends-trans _ _ _ _ _ course.text begun);
        held = cc (next.held shelf.held);
      }

      by : (k : ℕ) → Appends out'.written out''.written (text_begun (part ∷ []) k comes.bytes) → shelf''.held ≡ held_after shelf'.held (take k (part ∷ []))
          → ComesTo out out'' shelf shelf'' parts
      by zero none held =
          record { begun = i; bytes = length (text_of parts); text = rw (begun_whole i (length (text_of parts)) parts (omega arith)) (behind none); held = cc }
      by (suc zero) begun held = some comes.bytes begun held
      by (suc (suc k)) all held = some (length text) (rw (take_all (length text) text (omega arith)) (rw (append-nil text) at all)) held

  -- where this one is done, or nothing of it is
  does_behind : DoesSome out' out'' shelf' shelf'' (part ∷ []) → DoesSome out out'' shelf shelf'' parts
  does_behind does = by does.done does.text does.held
    where
      whole : Appends out'.written out''.written (text ++ []) → shelf''.held ≡ Some between.held → DoesSome out out'' shelf shelf'' parts
      whole all held = record {
        done = suc i;
        text = rw (next.text) (Appends-trans _ _ _ _ text course.text (rw (append-nil text) at all));
        held = cc (next.held shelf.held);
      }

      by : (k : ℕ) → Appends out'.written out''.written (text_of (take k (part ∷ []))) → shelf''.held ≡ held_after shelf'.held (take k (part ∷ []))
          → DoesSome out out'' shelf shelf'' parts
      by zero none held = record { done = i; text = behind none; held = cc }
      by (suc zero) all held = whole all held
      by (suc (suc k)) all held = whole all held

  -- but for the name under which this one stores
  fails_behind : shelf.faults ≤ shelf'.faults → FailsToStore out' out'' shelf' shelf'' (part ∷ []) → FailsToStore out out'' shelf shelf'' parts
  fails_behind le fails = by fails.done fails.text fails.held
    where
      by : (k : ℕ) → Appends out'.written out''.written (text_of (take k (part ∷ [])))
          → HoldsBut (stored_next (drop k (part ∷ []))) (held_after shelf'.held (take k (part ∷ []))) shelf''.held
          → FailsToStore out out'' shelf shelf'' parts
      by zero none but = record {
        done = i;
        text = behind none;
        rose = rose_since _ _ _ le fails.rose;
        held = rw (ap stored_next course.rest.5) (rw course.held at but);
      }
      by (suc zero) none but = absurd but
      by (suc (suc k)) none but = absurd but

  pub course_stops : (fault : PlayFault) → shelf.faults ≤ shelf'.faults → Content line board board' out' out'' shelf' shelf'' (Err fault)
      → LinesEnd parts new out out'' shelf shelf'' board' (Err fault)
  course_stops WriteFault le content = comes_behind (content course.holds text between course.told course.rest.3)
  course_stops ShelfFault le content =
      ⊎_elim (λ does. inl (does_behind does)) (λ fails. inr (fails_behind le fails)) (content course.holds text between course.told course.rest.3)
  course_stops NoMemory le content = does_behind (content course.holds text between course.told course.rest.3)

pub course_ends : (i : ℕ) (parts : List Part) (new : Session) (board : State) (out out' : Outlet) (shelf shelf' : Stock)
    → InCourse i [] parts new board out out' shelf shelf' → LinesEnd parts new out out' shelf shelf' board (Ok tt)
course_ends i parts new board out out' shelf shelf' course =
    let all : take i parts ≡ parts = take_all i parts (omega (arith, ap length course.rest.0, length-drop i parts)) in
    (rw all at course.text, course.held ∙ ap (held_after shelf.held) all, cc (course.rest.1))
