-- How a command ends, and what the call then does.
use Rattle.std.proofs.{KnownBytes.Keeps-refl, Common.inl, Common.inr, Common.[]}
use Rattle.std.proofs.Common.{◌≡◌, ℕ, Bool, true, false, List, refl, ◌∙◌, arith, Option, Some, None, append-nil, ◌⊎◌, ◌<◌, ◌^◌, sym}
use Rattle.std.specs.{Io.KnownBytes.Keeps, Io.KnownBytes.Appends, Prelude.string_bytes}
use Rattle.vms_io.proofs.ShelvingLemmas.{looks_reaches, reaches_both, reaches_none}
use Rattle.vms_io.proofs.WritingLemmas.{serves_none, stops_prefix}
use Rattle.vms_io.specs.{Reading.Takes, Shelving.Looks, Told.Intake, Told.Outlet, Told.Stock, Writing.Serves, Causes.AppendsPrefix, Causes.Rose}
use Rattle.vms_commands.specs.{StepEndings.TextEnds, Steps.Gives, declared.ending.Ending.Ending, Lines.bad_words}
use Rattle.vms_commands.specs.Courses.{Course, Draws, EndsSo, Risen, is_among}
use Rattle.vms_commands.specs.Endings.{WritesAs, status_of, Caused, EndsAs, EndsWith, Quiet, Tells}
use Rattle.vms_commands.specs.Outcomes.{Part, Outcome, Outside, ComesTo, ComesToFault, FailsToStore, TellsShelfFault, DoesOrStops, TakesBytes, done, ended}
use Rattle.vms_commands.specs.declared.ending.Ending.TheVariants
use TheVariants.{ReadFault, WriteFault, ShelfFault, Refused, BadWords, BadText, NotCompatible, NotThere, TooLarge, NoMemory, WouldLose}

-- ---- how a command ends, by its steps

pub wrong : true ≡ false → ⊥
wrong e = cc

pub draws_none : (i : Intake) → Draws i i
draws_none i = record { later = omega arith; promise = refl }

pub draws_took : {i i' : Intake} {bytes : List ℕ} → Takes i i' bytes → Draws i i'
draws_took t = record { later = t.later; promise = t.promise }

-- the shelf wasn't touched
pub unshelved_so : {i i' : Intake} {o o' : Outlet} (s : Stock) (course : Course) (e : Option Ending) → is_among course.statuses (status_of e) ≡ true → Risen i i' o o' s s e → (is_among course.writes (status_of e) ≡ false → Keeps o.written o'.written)
    → (is_among course.takes (status_of e) ≡ false → i' ≡ i) → Draws i i' → Serves o o' → EndsSo i i' o o' s s course e
unshelved_so s course e can risen out input draws serves = search (arith, reaches_none)

-- nothing was touched
pub same_so : (i : Intake) (o : Outlet) (s : Stock) (course : Course) (e : Option Ending) → is_among course.statuses (status_of e) ≡ true → Risen i i o o s s e → EndsSo i i o o s s course e
same_so i o s course e can risen = unshelved_so s course e can risen (λ f. Keeps-refl o.written) (λ f. refl) (draws_none i) (serves_none o)

-- the shelf was only read
pub looked_so : (i : Intake) (o : Outlet) {s s' : Stock} (course : Course) (e : Option Ending) → Looks s s' → (course.asks ≡ false → s' ≡ s) → is_among course.statuses (status_of e) ≡ true → Risen i i o o s s' e → EndsSo i i o o s s' course e
looked_so i o course e looks same can risen = search (arith, draws_none, serves_none, looks_reaches)

-- the shelf was used before
risen_since : (i i' : Intake) (o o' : Outlet) (a s s' : Stock) (e : Option Ending) → Looks a s → Risen i i' o o' s s' e → Risen i i' o o' a s' e
risen_since i i' o o' a s s' e p h = grind arith

pub asked : (b : Bool) → b ≡ true → b ≡ false → ⊥
asked b is f = cc

pub so_since : {i i' : Intake} {o o' : Outlet} {a s s' : Stock} {course : Course} (e : Option Ending) → course.asks ≡ true → Looks a s → EndsSo i i' o o' s s' course e → EndsSo i i' o o' a s' course e
so_since {i} {i'} {o} {o'} {a} {s} {s'} {course} e asks p g = search (arith, risen_since, asked, reaches_both, looks_reaches)

-- a text was written
pub writes_serve : (text : List ℕ) (o o' : Outlet) (e : Option Ending) → WritesAs text o o' e → Serves o o'
writes_serve text o o' e w = search arith

pub writes_end : (text : List ℕ) (o o' : Outlet) (e : Option Ending) → WritesAs text o o' e → TextEnds (Gives text) o o' e
writes_end text o o' e w = grind (arith, stops_prefix)

-- ---- from how a command ends and why to what the call does

-- what is unchanged grows by nothing
pub kept_none : (old new : Option (List ℕ)) → Keeps old new → Appends old new []
kept_none None new h = tt
kept_none (Some xs) None h = absurd h
kept_none (Some xs) (Some ys) h = h ∙ sym (append-nil xs)

pub same_keeps : (o o' : Outlet) → o' ≡ o → Keeps o.written o'.written
same_keeps o o' e = rw e (Keeps-refl o.written)

-- nothing was begun
pub comes_to_nothing : (o o' : Outlet) (s s' : Stock) (parts : List Part) → Keeps o.written o'.written → s'.held ≡ s.held → ComesTo o o' s s' parts
comes_to_nothing o o' s s' parts keeps held = record { begun = 0; bytes = 0; text = kept_none o.written o'.written keeps; held = held }

-- what is as it was is quiet
pub quiet_same : (o : Outlet) (e : Option Ending) → Quiet o o e
quiet_same o e = grind arith

pub takes_nothing : (i : Intake) → i.given < 2 ^ 64 → TakesBytes i i 0
takes_nothing i few = record { left = grind arith; given = omega (arith, few) }

-- an outcome of a status of its own, and nothing taken
pub ends_with : (k : ℕ) (line : List ℕ) (i : Intake) (x : Outcome) → i.given < 2 ^ 64 → x ≡ ended k line 0 → EndsWith k line i i x
ends_with k line i x few is = rw is (record { status_is = refl; parts = refl; note = refl; taken = takes_nothing i few })

-- a text was written, or a prefix of it, while the shelf stayed
pub text_written : (text : List ℕ) (i i' : Intake) (o o' : Outlet) (s s' : Stock) (taken : ℕ) (ending : Option Ending)
    → WritesAs text o o' ending → s'.held ≡ s.held → TakesBytes i i' taken → EndsAs i i' o o' s s' ending (done text s.held taken)
text_written text i i' o o' s s' taken None w same t = record {
  status_is = refl;
  text = rw append-nil w.told;
  note = refl;
  held = same;
  taken = t;
}
text_written text i i' o o' s s' taken (Some WriteFault) w same t = record { begun = 1; bytes = w.n; text = w.puts.told; held = same }
text_written text i i' o o' s s' taken e w same t = absurd w

-- the outside of these objects
abbrev pub around : Intake → Outlet → Outlet → Stock → Outside
around input out notes shelf = record { input = input; out = out; notes = notes; shelf = shelf }

module _ (i i' : Intake) (o o' n n' : Outlet) (s s' : Stock) where
  -- ---- the outcome

  -- ended with a status and its line, which was written
  ended_so : (k status : ℕ) (line : List ℕ) (x : Outcome) → EndsWith k line i i' x → Keeps o.written o'.written → s'.held ≡ s.held
      → ((status ≡ k) × Appends n.written n'.written line) ⊎ ((status ≡ 6) × Rose n.faults n'.faults × AppendsPrefix n.written n'.written line)
      → DoesOrStops status (around i o n s) (around i' o' n' s') x
  ended_so k status line x ends keeps held (inl t) = inl record {
    same = t.0 ∙ sym ends.status_is;
    text = rw ends.parts (kept_none o.written o'.written keeps);
    note = rw ends.note t.1;
    shelf = rw ends.parts held;
    taken = ends.taken;
  }
  ended_so k status line x ends keeps held (inr t) = inr record {
    why = inr (inr (inl ((t.0, t.1), inl (rw ends.note t.2))));
    come = inl (comes_to_nothing o o' s s' x.parts keeps held);
  }

  -- how far it got, if the line of a failure of the shelf was written
  at_fault : (status : ℕ) (x : Outcome) → ComesToFault o o' s s' x.parts → TellsShelfFault status (around i o n s) (around i' o' n' s')
      → ComesTo o o' s s' x.parts ⊎ (TellsShelfFault status (around i o n s) (around i' o' n' s') × FailsToStore o o' s s' x.parts)
  at_fault status x comes told = grind arith

  -- how the call ended, by the outcome and by the cause: it does the outcome, or it stops on the way
  pub outcome_so : (e : Option Ending) (status : ℕ) (x : Outcome) → EndsAs i i' o o' s s' e x → Caused i i' o o' s s' e → Tells n n' e status
      → DoesOrStops status (around i o n s) (around i' o' n' s') x
  outcome_so None status x d c t = inl record {
    same = t.0 ∙ sym d.status_is;
    text = d.text;
    note = rw d.note (kept_none n.written n'.written (same_keeps n n' t.1));
    shelf = d.held;
    taken = d.taken;
  }
  outcome_so (Some (Refused line)) status x d c t = ended_so 1 status line.items x d c.0 c.1 t
  outcome_so (Some BadWords) status x d c t = ended_so 2 status bad_words x d c.0 c.1 t
  outcome_so (Some (BadText line)) status x d c t = ended_so 3 status (string_bytes line) x d c.0 c.1 t
  outcome_so (Some (NotCompatible line)) status x d c t = ended_so 4 status (string_bytes line) x d c.0 c.1 t
  outcome_so (Some (NotThere line)) status x d c t = ended_so 8 status (string_bytes line) x d c.0 c.1 t
  outcome_so (Some (TooLarge line)) status x d c t = ended_so 9 status (string_bytes line) x d c.0 c.1 t
  outcome_so (Some (WouldLose line)) status x d c t = ended_so 11 status line.items x d c.0 c.1 t
  outcome_so (Some ReadFault) status x d c (inl t) = inr record { why = inl (t.0, c.0, c.1, t.1); come = inl d }
  outcome_so (Some ReadFault) status x d c (inr t) = inr record { why = inr (inr (inl ((t.0, t.1), inr (inl t.2)))); come = inl d }
  outcome_so (Some WriteFault) status x d c (inl t) = inr record { why = inr (inl (t.0, c, t.1)); come = inl d }
  outcome_so (Some WriteFault) status x d c (inr t) = inr record { why = inr (inr (inl ((t.0, t.1), inr (inr (inl t.2))))); come = inl d }
  outcome_so (Some ShelfFault) status x d c (inl t) = inr record { why = inr (inr (inr (inl (t.0, c, t.1)))); come = at_fault status x d (inl (t.0, c, t.1)) }
  outcome_so (Some ShelfFault) status x d c (inr t) =
      inr record { why = inr (inr (inl ((t.0, t.1), inr (inr (inr (inl t.2)))))); come = at_fault status x d (inr ((t.0, t.1), t.2)) }
  outcome_so (Some NoMemory) status x d c (inl t) = inr record { why = inr (inr (inr (inr t))); come = inl d }
  outcome_so (Some NoMemory) status x d c (inr t) = inr record { why = inr (inr (inl ((t.0, t.1), inr (inr (inr (inr t.2)))))); come = inl d }
