-- The commands that play a script: `save`, `play` and `load`.
use Rattle.vms_board_commands.proofs.Facade
use Facade.{Appends, AreEvents, AreLines, ArrayVec, Asks, Back, Bool, ComesTo, DoesSome, Ending, Ends, EndsAs, Err, Event, Family, Faulty, FetchCause}
use Facade.{FitsHeads, Gives, Global, HadCause, Held, HoldsAll, IfOk, Intake, IsBytes, IsErrAnd, IsLevel, IsRefused, IsSomeAnd, Line, LinesEnd, List, LoadGives}
use Facade.{Loads, Looks, NoMemory, None, Ok, Option, Outcome, Outlet, Part, PlayFault, Plays, PlaysAll, ReadCause, ReadFault, ReadsLines, Refusal, Restore}
use Facade.{RestoreReads, Restores, Result, SaveFault, Saves, ScriptFault, ScriptLine, Seen, Session, SetCause, ShelfFault, Some, Standing, State, Step, StepAs}
use Facade.{Stock, TextEnds, Traces, Unfit, Untold, Vec, WellFormed, WriteFault, WritesAs, [], after_events, answers_to, ap, are_events, arith, begun_whole}
use Facade.{bytes_come, done, ended, ending_by, event_lines, events_back, events_of, fault_within, fetched_gives, inl, inr, length, length-append, lines_view}
use Facade.{longest_script, mapped_by, most_given, next, no_fault, one_fault_holds, one_restore, power_on, power_on-sound, reads_as, reads_exactly, refl}
use Facade.{refused_line, rose_since, said_lines, saved_after, saved_stream, script_read, scripted, session_of, sessions_are_one, sessions_end, sound_fetch}
use Facade.{sound_next, stops_prefix, subst, sym, takes_nothing, text_of, trace_from, trace_of, true, ℕ, ◌+◌, ◌<◌, ◌^◌, ◌∙◌, ◌∷◌}
use Facade.{◌≡◌, ◌≤◌}
use Rattle.vms_board_commands.proofs.RunLemmas.{TakesSo, reads_all, seen_refused, seen_written}
use Rattle.vms_board_commands.specs.Save.{ending_by as save_ending}
use Rattle.vms_commands.proofs.StepLemmas.{IsSound}
use Rattle.vms_board.specs.Restoring.{Refused}
use Rattle.vms_session.specs.Session.{begun}
use Rattle.vms_session.specs.declared.line.PlayFault.TheVariants as faults
use Rattle.vms_board.specs.declared.restore.RestoreFault.TheVariants as restores
use Rattle.vms_commands.specs.declared.ending.Ending.TheVariants as endings

-- ---- a script that is fetched and read, as a step

module _ {T : Type 0} (lines : T → List ScriptLine) where
  -- and so are those that are obtained from it
  pub had_lines : (play : Option ℕ) (text : List ℕ) (read : Result T ScriptFault) (r : Result T Ending) → ReadsLines lines (script_read play text) read → IfOk r (λ t. read ≡ Ok t)
      → IfOk r (λ t. AreLines play (lines t))
  had_lines play text read (Ok t) h same = grind (arith, reads_exactly)
  had_lines play text read (Err e) h same = tt

pub unread : (T : Type 0) (asks : Bool) (s s' : Stock) (e : Ending) → ReadCause {T = T} asks (Err e) → SetCause asks s s' (Some e)
unread T asks s s' e c = grind arith

-- the lines of a text that was fetched, or the end if it wasn't
pub read_asks : {T : Type 0} {s s' : Stock} (r : Result T Ending) → Looks s s' → ReadCause true r → Asks (HadCause true) s s' r
read_asks (Ok v) looks h = record { looks = looks; cause = tt }
read_asks {T} {s} {s'} (Err e) looks h = record { looks = looks; cause = unread T true s s' e h }

pub unfetched_asks : {T U : Type 0} {s s' : Stock} {e : Ending} (r : Result U Ending) → IsErrAnd r (λ x. x ≡ e) → Asks (FetchCause {T = T}) s s' (Err e) → Asks (HadCause true) s s' r
unfetched_asks (Ok v) h a = absurd h
unfetched_asks {T} {U} {s} {s'} {e} (Err x) h a = rw h (record { looks = a.looks; cause = grind arith })

-- the lines of events, and of a script
abbrev pub event_view : Vec Event Global → List ScriptLine
event_view v = event_lines v.items

abbrev pub script_view : Vec Line Global → List ScriptLine
script_view v = lines_view v.items

-- events that are obtained may be applied
pub had_events : (text : List ℕ) (read : Result (Vec Event Global) ScriptFault) (r : Result (Vec Event Global) Ending) → ReadsLines event_view (script_read None text) read
    → IfOk r (λ v. read ≡ Ok v) → IfOk r (λ v. AreEvents v.items)
had_events text read (Ok v) h same = are_events None _ (had_lines event_view None text read (Ok v) h same)
had_events text read (Err e) h same = tt

-- ---- the step that gives a script. It is known if the shelf is, never ends with the status 0, and gives lines that may be in a script.

pub sound_script : (play : Option ℕ) (held : Option Held) (name : List ℕ) → IsSound held (scripted play held name)
sound_script play held name = sound_next held _ (λ text. said_lines (script_read play text)) (sound_fetch held _ name) (λ text. grind arith)

pub sound_saved : {S : Type 0} (f : Family S) (number set : ℕ) (held : Option Held) (name : List ℕ) → IsSound held (saved_after f number set held name)
sound_saved f number set held name =
    sound_next held _ (λ lines. Gives (saved_stream f set (after_events f (events_of lines) (f.power_on number)))) (sound_script None held name) (λ lines. tt)

-- lines that the step gives may be in a script, for a session on a board of this level
abbrev pub AreStepLines : Option ℕ → Step (List ScriptLine) → Type 0
AreStepLines play Untold = Unit {0}
AreStepLines play (Gives lines) = AreLines play lines
AreStepLines play (Ends status line) = Unit {0}

step-lines : (play : Option ℕ) (s : Step (List ℕ)) → AreStepLines play (next s (λ text. said_lines (script_read play text)))
step-lines play s = grind (arith, reads_exactly)

pub scripted_lines : (play : Option ℕ) (held : Option Held) (name : List ℕ) → AreStepLines play (scripted play held name)
scripted_lines play held name = step-lines play _

-- a script that is there is read
pub script_gives : (play : Option ℕ) (map : Held) (name text : List ℕ) (lines : List ScriptLine) → map name ≡ Some text → length text ≤ longest_script
    → script_read play text ≡ Ok lines → scripted play (Some map) name ≡ Gives lines
script_gives play map name text lines held short reads = rw (fetched_gives _ map name text held short) (ap said_lines reads)

-- ---- the ending of `save`, from the result of saving a board

pub saved_ends : (bytes text : List ℕ) (o o' : Outlet) (r : Result Unit SaveFault) → bytes ≡ text → Saves bytes o o' r → TextEnds (Gives text) o o' (mapped_by save_ending r)
saved_ends bytes text o o' r e h = grind (arith, stops_prefix)

pub at_level : (level : ℕ) → (power_on level).level ≡ level
unfolding power_on
at_level level = refl

-- ---- the ending of `play`, from the results of its lines

-- the parts and the session that the lines result in
abbrev pub Content : List ScriptLine → State → State → (o o' : Outlet) (s s' : Stock) → Result Unit PlayFault → Type 0
Content lines board board' o o' s s' result =
    (held : Held) (parts : List Part) (new : Session) → s.held ≡ Some held → Plays lines (session_of board held) parts new → LinesEnd parts new o o' s s' board' result

module _ (level : ℕ) (lines : List ScriptLine) (i : Intake) (o o' : Outlet) (s s' : Stock) (board board' : State) (x : Outcome) (on : board ≡ power_on level) where
  at-power-on : (result : Result Unit PlayFault) → Content lines board board' o o' s s' result → Content lines (power_on level) board' o o' s s' result
  at-power-on result content = rw on at content

  -- parts that are done were begun
  comes_so : (parts : List Part) → DoesSome o o' s s' parts → ComesTo o o' s s' parts
  comes_so parts h = record {
    begun = h.done;
    bytes = length (text_of parts);
    text = subst (Appends o.written o'.written) (sym (begun_whole h.done _ parts (omega arith))) h.text;
    held = h.held;
  }

  -- by each result
  as_ending : (r : Result Unit PlayFault) (parts : List Part) (new : Session) → i.given < 2 ^ 64 → LinesEnd parts new o o' s s' board' r
      → EndsAs i i o o' s s' (mapped_by ending_by r) (record { status = 0; parts = parts; note = []; taken = 0 })
  as_ending (Ok u) parts new few h = record { status_is = refl; text = h.0; note = refl; held = h.1; taken = takes_nothing i few }
  as_ending (Err faults.WriteFault) parts new few h = h
  as_ending (Err faults.ShelfFault) parts new few (inl h) = inl (comes_so parts h)
  as_ending (Err faults.ShelfFault) parts new few (inr h) = inr h
  as_ending (Err faults.NoMemory) parts new few h = comes_so parts h

  -- however it ends
  pub played_by : (r : Result Unit PlayFault) → i.given < 2 ^ 64 → Content lines board board' o o' s s' r → IsSomeAnd s.held (λ map. PlaysAll level lines map x)
      → EndsAs i i o o' s s' (mapped_by ending_by r) x
  played_by r few content has = by s.held refl has
    where
      by : (held : Option Held) → s.held ≡ held → IsSomeAnd held (λ map. PlaysAll level lines map x) → EndsAs i i o o' s s' (mapped_by ending_by r) x
      by None e h = absurd h
      by (Some map) e h = rw h.outcome (as_ending r h.parts h.new few (at-power-on r content map h.parts h.new e h.plays))

-- ---- from before the script was fetched

module _ (i i' : Intake) (o o' : Outlet) (a b s' : Stock) (held : b.held ≡ a.held) (le : a.faults ≤ b.faults) (x : Outcome) where
  comes-since : ComesTo o o' b s' x.parts → ComesTo o o' a s' x.parts
  comes-since c = record { begun = c.begun; bytes = c.bytes; text = c.text; held = cc (c.held) }

  pub ends_since : (e : Option Ending) → EndsAs i i' o o' b s' e x → EndsAs i i' o o' a s' e x
  ends_since None h = record { status_is = h.status_is; text = h.text; note = h.note; held = cc; taken = h.taken }
  ends_since (Some ReadFault) h = comes-since h
  ends_since (Some WriteFault) h = comes-since h
  ends_since (Some ShelfFault) (inl h) = inl (comes-since h)
  ends_since (Some ShelfFault) (inr h) = grind (arith, done, rose_since)
  ends_since (Some NoMemory) h = comes-since h
  ends_since e h = h

-- ---- a script has one outcome of `play`, whatever bytes the shelf holds

abbrev played : List Part → Outcome
played parts = record { status = 0; parts = parts; note = []; taken = 0 }

module _ (level : ℕ) (lines : List ScriptLine) (held : Held) (is : IsLevel level) (are : AreLines (Some level) lines) (holds : HoldsAll held) where
  good : AreLines (Some (begun level held).board.level) lines
  good = rw (at_level level) are

  pub has_end : (o : Outcome) × PlaysAll level lines held o
  has_end =
      let end = sessions_end.ends lines (begun level held) good (power_on-sound level is) holds in
      (played end.parts, record { parts = end.parts; new = end.new; plays = end.plays; outcome = refl })

  pub one_outcome : (o x : Outcome) → PlaysAll level lines held o → PlaysAll level lines held x → x ≡ o
  one_outcome o x p q =
      let one = sessions_are_one.one lines (begun level held) q.parts p.parts q.new p.new good (power_on-sound level is) holds q.plays p.plays in
      q.outcome ∙ ap played one.same ∙ sym p.outcome

-- ---- the outcome of `load`, from the results of a restore and of a trace

-- the trace of events is that of their lines
pub written_events : {S : Type 0} (kind : Family S) (events : List Event) (m : S) (o o' : Outlet) (e : Option Ending) → WritesAs (trace_from kind events m) o o' e → WritesAs (trace_from kind (events_of (event_lines events)) m) o o' e
written_events kind events m o o' e w = rw (events_back events) w

-- ---- what is seen

module _ {S : Type 0} (kind : Family S) (level : ℕ) (lines : List ScriptLine) where
  abbrev OfLoads : Option Held → List ℕ → Outcome → Type 0
  OfLoads held bytes x = Loads kind level lines bytes held x

  -- a board was restored, and its trace was written, or some of it
  pub trace_seen : {i i' : Intake} {o o' : Outlet} {s s' : Stock} (new : Standing S) (e : Option Ending) → s'.held ≡ s.held → RestoreReads kind level i i' new (Ok tt)
      → WritesAs (trace_from kind (events_of lines) new.state) o o' e → Seen (OfLoads s.held) i i' o o' s s' e
  trace_seen {i} {i'} {o} {o'} {s} new e held reads w =
      let text = trace_from kind (events_of lines) new.state in
      seen_written {P = OfLoads s.held} text new.taken e held
      (reads_as {M = λ n. n ≡ new.taken} {Q = λ input left. OfLoads s.held input (done text s.held new.taken)} (λ n l. l.0) (λ input left comes. Traces new.state new.taken comes.0) reads) w

  -- a refusal reads the bytes up to the end of the invalid unit, or the whole stream
  refusal_takes : (held : Option Held) (r : Refusal) (line input left : List ℕ) → line ≡ refused_line (kind.set kind.newest) r.at r.section r.reason → IsRefused kind level input (Some left) r
      → TakesSo (λ bytes n. OfLoads held bytes (ended 1 line n)) input left
  refusal_takes held r line input left said (inl f) = record {
    taken = r.at + f.0.0;
    says = rw said (Faulty r.at r.section r.reason f.0.0 f.0.1);
    within = fault_within _ _ input r.at _ _ f.0.0 f.0.1;
    rest = f.1;
  }
  refusal_takes held r line input left said (inr f) =
      let takes = f.0.taken.1 in
      record {
        taken = r.at;
        says = rw said (Unfit r.at r.section r.reason f.0);
        within = omega (arith, ap length takes.prefix, length-append takes.bytes takes.rest);
        rest = f.1;
      }

  pub refusal_seen : {i i' : Intake} {o o' : Outlet} {s s' : Stock} (new : Standing S) (r : Refusal) (line : ArrayVec ℕ) → RestoreReads kind level i i' new (Err (restores.Refused r))
      → line.items ≡ refused_line (kind.set kind.newest) r.at r.section r.reason → Seen (OfLoads s.held) i i' o o' s s' (Some (endings.Refused line))
  refusal_seen {i} {i'} {o} {o'} {s} new r line reads said =
      seen_refused {P = OfLoads s.held} line (length reads.bytes)
      (reads_all (λ bytes n. OfLoads s.held bytes (ended 1 line.items n)) reads (λ input left comes. refusal_takes s.held r _ input left said comes))

-- ---- the number of bytes that the input gives

pub gives_some : {A T S : Type 0} (kind : Family S) (view : T → A) (step : Step A) (t : T) (i i' : Intake) → StepAs view step (Ok t)
    → i'.given ≤ i.given + most_given (kind.set kind.newest) → LoadGives kind step i i'
gives_some kind view step t i i' h within = grind arith

pub gives_none : {A S : Type 0} (kind : Family S) (step : Step A) (i : Intake) → LoadGives kind step i i
gives_none kind step i = grind arith

-- the outcome for the board with this number, if the input is known
abbrev pub loads_under : {S : Type 0} → Family S → ℕ → Option (List ℕ) → Option Held → List ScriptLine → Outcome → Type 0
loads_under kind level input held lines x = IsSomeAnd input (λ bytes. Loads kind level lines bytes held x)

-- ---- an input and a script have one outcome of `load`

pub record OneLoad {S : Type 0} (kind : Family S) (level : ℕ) (lines : List ScriptLine) (bytes : List ℕ) (held : Option Held) : Type 0 where
  pub outcome : Outcome
  pub is : Loads kind level lines bytes held outcome
  pub only : (other : Outcome) → Loads kind level lines bytes held other → other ≡ outcome

module _ {S : Type 0} (kind : Family S) (well : WellFormed (kind.set kind.newest)) (heads : FitsHeads (kind.set kind.newest)) (level : ℕ)
    (lines : List ScriptLine) (bytes : List ℕ) (held : Option Held) (ok : IsBytes bytes) where
  -- the outcome by what the bytes restore
  abbrev said : (r : Restore S) → Restores kind level bytes r → Outcome
  said (Back m taken) r = done (trace_of (answers_to kind (events_of lines) m)) held taken
  said (Refused place section reason) (inl f) = ended 1 (refused_line (kind.set kind.newest) place section reason) (place + f.0)
  said (Refused place section reason) (inr f) = ended 1 (refused_line (kind.set kind.newest) place section reason) place

  said_of : (x : Outcome) → Loads kind level lines bytes held x → (r : Restore S) × (p : Restores kind level bytes r) × (x ≡ said r p)
  said_of _ (Traces board long p) = (Back board long, p, refl)
  said_of _ (Faulty place section reason size f) = (Refused place section reason, inl (size, f), refl)
  said_of _ (Unfit place section reason f) = (Refused place section reason, inr f, refl)

  one_said : (r : Restore S) (p q : Restores kind level bytes r) → said r q ≡ said r p
  one_said (Back m taken) p q = refl
  one_said (Refused place section reason) (inl f) (inl g) =
      let one = one_fault_holds (kind.set kind.newest) (kind.machine level ∷ []) bytes ok place place section section reason reason f.0 g.0 f.1 g.1 in
      rw (one.sizes)
  one_said (Refused place section reason) (inl f) (inr g) = absurd (no_fault kind well heads level bytes ok place g.images place section reason g.taken f)
  one_said (Refused place section reason) (inr f) (inl g) = absurd (no_fault kind well heads level bytes ok place f.images place section reason f.taken g)
  one_said (Refused place section reason) (inr f) (inr g) = refl

  pub loads_same : (x y : Outcome) → Loads kind level lines bytes held x → Loads kind level lines bytes held y → y ≡ x
  loads_same x y p q =
      let a = said_of x p in
      let b = said_of y q in
      let same : a.0 ≡ b.0 = one_restore kind well heads level bytes ok a.0 b.0 a.1 b.1 in
      b.2 ∙ subst (λ (r : Restore S). (p : Restores kind level bytes r) → said b.0 b.1 ≡ said r p) (sym same) (λ p. one_said b.0 p b.1) a.1 ∙ sym a.2

  is_said : (r : Restore S) (p : Restores kind level bytes r) → Loads kind level lines bytes held (said r p)
  is_said (Back m taken) p = Traces m taken p
  is_said (Refused place section reason) (inl f) = Faulty place section reason f.0 f.1
  is_said (Refused place section reason) (inr f) = Unfit place section reason f

  pub loads_one : OneLoad kind level lines bytes held
  loads_one =
      let some = bytes_come kind well heads level bytes ok in
      let is = is_said some.0 some.1 in
      record { outcome = said some.0 some.1; is = is; only = λ other l. loads_same _ other is l }
