-- From how a command ends, and why, to what is proved of its row.
use Rattle.vms_cli.proofs.Facade.{cond, Play, ◌==◌, next, ◌≡◌, ◌⊎◌, ℕ, true, false, List, [], ◌∷◌, Option, Some, refl, IfSome, IsBytes}
use Rattle.vms_cli.proofs.Facade.{Held, HoldsAll, Outcome, is_among, Task, Entry, HasOne, arith, nat_tests, inl, inr, none-some, sym, Ends, Gives, HasBy}
use Rattle.vms_cli.proofs.Facade.{IsSound, Step, Untold, done, ended, one_text, None, Bool, ◌++◌, Keeps, Appends, EndsSo, Risen, of_shelf, text_course}
use Rattle.vms_cli.proofs.Facade.{wrong, draws_none, Asked, course_of, Looks, looks_reaches, Intake, Outlet, Stock, Ending, Caused, status_of, Tells, line_of}
use Rattle.vms_cli.proofs.Facade.{among_left, shelf_has, WritesBy, Rose, SeenAs, Does, DoesOrStops, Outside, around, kept_none, outcome_so, same_keeps, Runs}
use Rattle.vms_cli.proofs.Facade.{moment, task_of, CanAnswer, ComesSeen, DoesSeen, HasCause, bad_words, out_of_memory, read_fault, shelf_fault, write_fault}
use Rattle.vms_board_commands.specs.Runs.{text_task}
use Rattle.vms_commands.specs.Courses.{Course}

-- ---- the lists of a course

-- 6 is in the list, or the list has none
abbrev HasSix : List ℕ → Type 0
HasSix [] = Unit {0}
HasSix l = is_among l 6 ≡ true

-- a list without the statuses at which nothing is written or stored
abbrev Spares : List ℕ → Type 0
Spares l = (k : ℕ) → is_among (1 ∷ 2 ∷ 3 ∷ 4 ∷ 5 ∷ 8 ∷ 9 ∷ 11 ∷ []) k ≡ true → is_among l k ≡ false

spares_none : Spares []
spares_none k is = refl

spares_text : Spares (0 ∷ 6 ∷ [])
spares_text k is = grind (arith, nat_tests, is)

spares_play : Spares (0 ∷ 6 ∷ 7 ∷ 10 ∷ [])
spares_play k is = grind (arith, nat_tests, is)

-- the lists of a course, as each answer wants them
pub record Fits (course : Course) : Type 0 where
  pub statuses : is_among course.statuses 6 ≡ true
  pub writes : HasSix course.writes
  pub takes : HasSix course.takes
  pub stores : HasSix course.stores
  pub unwritten : Spares course.writes
  pub unstored : Spares course.stores

pub fits_of : (asked : Option Asked) → Fits (course_of asked)
fits_of None = record { statuses = refl; writes = tt; takes = tt; stores = tt; unwritten = spares_none; unstored = spares_none }
fits_of (Some (Play level script)) =
    record { statuses = refl; writes = refl; takes = tt; stores = refl; unwritten = spares_play; unstored = spares_play }
fits_of (Some asked) = record { statuses = refl; writes = refl; takes = search; stores = tt; unwritten = spares_text; unstored = spares_none }

-- what can be done has an outcome of status 0
pub record IsDone (task : Task) (input : Option (List ℕ)) (held : Option Held) : Type 0 where
  pub outcome : Outcome
  pub is : task.has input held outcome
  pub status : outcome.status ≡ 0

-- it has one outcome; and if all that it needs is there, that has status 0
pub record IsRow (entry : Entry) : Type 0 where
  pub one : (input : List ℕ) (held : Held) → IsBytes input → HoldsAll held → entry.words → HasOne (λ o. entry.task.has (Some input) (Some held) o)
  pub done : (input : Option (List ℕ)) (held : Option Held) → IfSome held HoldsAll → entry.words → entry.needs input held → IsDone entry.task input held

-- ---- one outcome

-- what has this outcome has no other
pub one_of : {P : Outcome → Type 0} {x : Outcome} → ((a b : Outcome) → P a → P b → b ≡ a) → P x → HasOne P
one_of {x = x} same is = record { outcome = x; is = is; only = λ other p. same x other is p }

-- ---- by the steps of a command

-- what a step and the one after it gave
pub next_gives : {A B : Type 0} (s : Step A) (f : A → Step B) (b : B) → next s f ≡ Gives b → (a : A) × (s ≡ Gives a) × (f a ≡ Gives b)
next_gives (Gives a) f b e = (a, refl, e)
next_gives _ f b e = cc

-- there is one outcome of a step that is known, if there is one of what it gives
pub one_by : {A : Type 0} (P : A → Outcome → Type 0) (held : Held) (step : Step A) → IsSound (Some held) step → ((a : A) → step ≡ Gives a → HasOne (P a))
    → HasOne (λ o. HasBy P step o)
one_by P held Untold sound each = absurd (none-some {A = Held} held (sym sound))
one_by P held (Gives a) sound each = each a refl
one_by P held (Ends status line) sound each = record { outcome = ended status line 0; is = refl; only = λ other e. e }

-- if its steps give the text wherever all that it needs is there
pub text_row : (step : Option Held → Step (List ℕ)) {course : Course} {words : Type 0} {needs : Option (List ℕ) → Option Held → Type 0}
    → ((held : Option Held) → IsSound held (step held)) → ((input : Option (List ℕ)) (held : Option Held) → needs input held → (text : List ℕ) × (step held ≡ Gives text))
    → IsRow (record { task = text_task step course; words = words; needs = needs })
text_row step sound gives = record {
  one = λ input held ok holds words.
      let one = one_text held (step (Some held)) (sound (Some held)) in
      record { outcome = one.outcome; is = one.is; only = one.only };
  done = λ input held octets words can.
      let text = gives input held can in
      record { outcome = done text.0 held 0; is = rw text.1 refl; status = refl };
}

-- ---- each ending of a command, by what it touches

module _ (i i' : Intake) (o o' : Outlet) (s s' : Stock) where
  -- the cause of an ending, as the outcome wants it
  pub caused_so : (course : Course) → Fits course → (e : Option Ending) → EndsSo i i' o o' s s' course e → Caused i i' o o' s s' e
  caused_so course fits e h = grind arith

-- the statuses of a command that writes a text, and that of sets that are compared
abbrev own_of : Bool → List ℕ
own_of true = 0 ∷ 4 ∷ 6 ∷ 10 ∷ []
own_of false = 0 ∷ 6 ∷ 10 ∷ []

own_has : (compares asks : Bool) (k : ℕ) → is_among (0 ∷ 6 ∷ 10 ∷ []) k ≡ true → is_among (own_of compares ++ of_shelf asks) k ≡ true
own_has true asks k is = among_left (0 ∷ 4 ∷ 6 ∷ 10 ∷ []) _ k (grind (arith, nat_tests, is))
own_has false asks k is = among_left (0 ∷ 6 ∷ 10 ∷ []) _ k is

-- Of a command that reads nothing of the input. `refuses` is whether the call inside may refuse a text, `asks` whether the shelf is read.
module _ (i : Intake) (o o' : Outlet) (s s' : Stock) (refuses asks compares : Bool) (so : refuses ≡ true → asks ≡ true) where
  -- which ending it is, by the lists of a command
  abbrev IsOf : List ℕ → Option Ending → Type 0
  IsOf all e = (is_among all (status_of e) ≡ true) × Risen i i o o' s s' e × (is_among (0 ∷ 6 ∷ []) (status_of e) ≡ false → Keeps o.written o'.written)

  -- if the shelf was only read
  pub text_ends : (e : Option Ending) → WritesBy refuses compares o o' e → Looks s s' → (asks ≡ false → s' ≡ s)
      → EndsSo i i o o' s s' (text_course (own_of compares) [] asks) e
  text_ends e w looks unasked = search (arith, own_has, wrong, shelf_has, draws_none, looks_reaches)

-- ---- from how a command ends and why to its row

module _ (i i' : Intake) (o o' n n' : Outlet) (s s' : Stock) where
  abbrev old : Outside
  old = around i o n s

  abbrev new : Outside
  new = around i' o' n' s'

  -- its status and its line, or 6 where notes failed
  abbrev Told : Option Ending → ℕ → Type 0
  Told e status = ((status ≡ status_of e) × Appends n.written n'.written (line_of e)) ⊎ ((status ≡ 6) × Rose n.faults n'.faults)

  told : (e : Option Ending) (status : ℕ) → Tells n n' e status → Told e status
  told e status t = grind (arith, kept_none, same_keeps)

  -- why a status was answered
  abbrev Holds : ℕ → Type 0
  Holds k =
      cond (k == 0) (n' ≡ n) (cond (k == 2) (Appends n.written n'.written bad_words)
      (cond (k == 5) (Rose i.faults i'.faults × Appends n.written n'.written read_fault)
      (cond (k == 6) ((Rose o.faults o'.faults × Appends n.written n'.written write_fault) ⊎ Rose n.faults n'.faults)
      (cond (k == 7) (Rose s.faults s'.faults × Appends n.written n'.written shelf_fault)
      (cond (k == 10) (Appends n.written n'.written out_of_memory) (Unit {0}))))))

  holds : (course : Course) (e : Option Ending) (status : ℕ) → EndsSo i i' o o' s s' course e → Tells n n' e status → Holds status
  holds course e status h t = grind arith

  has_cause : (status : ℕ) → Holds status → HasCause status old new
  has_cause status h = search arith

  -- what holds at the status of an ending, but at those of a list, holds at the status that was answered
  but_at : (l : List ℕ) → HasSix l → (e : Option Ending) (status : ℕ) → Told e status → (P : Type 0) → (is_among l (status_of e) ≡ false → P)
      → is_among l status ≡ false → P
  but_at l six e status t P h none = grind (arith, is_among, wrong)

  can_be : (statuses : List ℕ) → is_among statuses 6 ≡ true → (e : Option Ending) (status : ℕ) → Told e status → is_among statuses (status_of e) ≡ true
      → is_among statuses status ≡ true
  can_be statuses six e status (inl t) h = rw t.0 h
  can_be statuses six e status (inr t) h = rw t.0 six

  -- ---- what is seen

  -- the statuses of what is done, is refused or would lose something
  abbrev IsSeen : ℕ → Type 0
  IsSeen status = (status ≡ 0) ⊎ (status ≡ 1) ⊎ (status ≡ 11)

  does_so : (status : ℕ) (x : Outcome) → DoesOrStops status old new x → IsSeen status → Does status old new x
  does_so status x does which = grind arith

  seen_so : (P : List ℕ → Outcome → Type 0) (e : Option Ending) (status : ℕ) → SeenAs P i i' o o' s s' e → Caused i i' o o' s s' e → Tells n n' e status
      → IsSeen status → DoesSeen P status old new
  seen_so P e status seen cause t which = search (arith, does_so, outcome_so)

  stopped_so : (P : List ℕ → Outcome → Type 0) (e : Option Ending) (status : ℕ) → SeenAs P i i' o o' s s' e → Caused i i' o o' s s' e → Tells n n' e status
      → status ≡ 6 → ComesSeen P status old new ⊎ Rose old.notes.faults new.notes.faults
  stopped_so P e status seen cause t six = search (arith, is_among, outcome_so)

  -- the row
  pub row_so : (asked : Option Asked) → Fits (course_of asked) → (e : Option Ending) (status : ℕ)
      → Runs (task_of asked) (moment i o s) (moment i' o' s') e → (asked ≡ None → o' ≡ o) → Tells n n' e status → CanAnswer asked status old new
  row_so asked fits e status c unnamed t =
      let h = c.so in
      let said = told e status t in
      let caused = caused_so i i' o o' s s' _ fits e h in
      record {
        can = can_be _ fits.statuses e status said h.can;
        cause = has_cause status (holds _ e status h t);
        out = but_at _ fits.writes e status said _ h.out;
        input = but_at _ fits.takes e status said _ h.input;
        held = but_at _ fits.stores e status said _ h.held;
        shelf = h.shelf;
        unnamed = unnamed;
        given = c.given;
        seen = λ is which. seen_so _ e status (c.seen is) caused t which;
        stopped = λ is six. stopped_so _ e status (c.seen is) caused t six;
      }
