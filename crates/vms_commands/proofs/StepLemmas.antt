-- Steps that a command takes before its work: how they end it, and what it does where they give something.
use Rattle.std.proofs.{lemmas.Bool.cond_both, lemmas.Bool.le-leb, lemmas.Option.none-some, Common.arith, Common.inl}
use Rattle.std.proofs.Common.{append-nil, ◌≡◌, ℕ, ◌<◌, ◌^◌, nat_le, ◌≤◌, List, length, Option, Some, None, Result, Ok, Err, refl, sym}
use Rattle.std.specs.{Prelude.string_bytes, Result.IsErrAnd, Result.MatchResult}
use Rattle.vms_io.specs.{Shelves.Held, Told.Intake, Told.Outlet, Told.Stock}
use Rattle.vms_descfile.specs.Files.{Said}
use Rattle.vms_commands.proofs.EndLemmas.{comes_to_nothing, ends_with, takes_nothing}
use Rattle.vms_commands.specs.{declared.ending.Ending.Ending, Endings.EndsAs, Endings.Quiet, Endings.ending_of, Outcomes.Outcome, Outcomes.done, Outcomes.ended}
use Rattle.vms_commands.specs.{SetWords.SetWord, SetWords.Shipped, SetWords.OnShelf}
use Rattle.vms_commands.specs.Fetching.{longest_file, text_under, fetched, SetText, Text, fetched_set, said_set, set_in, sets_in, named_sets, word_set}
use Rattle.vms_commands.specs.StepEndings.{IsFree, EndedAs, StepAs, WrittenAs, TextEnds}
use Rattle.vms_commands.specs.Steps.{Step, Untold, Gives, Ends, next, both, HasBy, HasText}
use Rattle.vms_commands.specs.declared.ending.Ending.TheVariants.{BadText, NotCompatible, WriteFault, ShelfFault, NotThere, TooLarge, NoMemory}

-- ---- how a command ends, by what its work returned

-- at the exit of a `?`
pub ending_passed : {T : Type 0} (work : Result T Ending) {e : Ending} → IsErrAnd work (λ x. x ≡ e) → ending_of work ≡ Some e
ending_passed work is = grind arith

-- of a call whose fault has an ending
abbrev pub mapped_by : {T F : Type 0} → (F → Ending) → Result T F → Option Ending
mapped_by m (Ok t) = None
mapped_by m (Err fault) = Some (m fault)

pub ending_mapped : {T F : Type 0} (m : F → Ending) (call : Result T F) (work : Result T Ending)
    → MatchResult call (λ t. work ≡ Ok t) (λ fault. IsErrAnd work (λ x. x ≡ m fault)) → ending_of work ≡ mapped_by m call
ending_mapped m call work is = grind (arith, ending_passed)

-- ---- one step after another

free_ends : {B U : Type 0} (n : U → B) (s : Step B) (e : Ending) → IsFree (Some e) → StepAs {A = B} {T = U} n s (Err e)
free_ends n s e h = grind arith

module _ {A B T U : Type 0} (m : T → A) (n : U → B) (f : A → Step B) where
  -- the first step ended the command
  pub first_err : (s : Step A) (e : Ending) → StepAs {A = A} {T = T} m s (Err e) → StepAs {A = B} {T = U} n (next s f) (Err e)
  first_err s e h = grind (arith, free_ends)

  -- the second was taken
  pub then_as : (s : Step A) (t : T) (r : Result U Ending) → StepAs m s (Ok t) → StepAs n (f (m t)) r → StepAs n (next s f) r
  then_as s t r h k = grind arith

-- ---- texts for out

-- a failure of the shelf and a lack of memory end any step
free_text : (s : Step (List ℕ)) (o o' : Outlet) (e : Option Ending) → IsFree e → TextEnds s o o' e
free_text s o o' e h = grind arith

module _ {A T : Type 0} (m : T → A) (f : A → Step (List ℕ)) (o o' : Outlet) where
  -- a step ended the command
  pub err_text : (e : Ending) (s : Step A) → StepAs {A = A} {T = T} m s (Err e) → TextEnds (next s f) o o' (Some e)
  err_text e s h = grind (arith, free_text)

  -- it gave something
  pub then_text : (e : Option Ending) (s : Step A) (t : T) → StepAs m s (Ok t) → TextEnds (f (m t)) o o' e → TextEnds (next s f) o o' e
  then_text e s t first h = grind arith

-- ---- the outcome

given_ends : (text : List ℕ) (i : Intake) (o o' : Outlet) (s s' : Stock) (e : Option Ending) → i.given < 2 ^ 64 → s'.held ≡ s.held → Quiet o o' e → WrittenAs text o o' e
    → EndsAs i i o o' s s' e (done text s.held 0)
given_ends text i o o' s s' None few same quiet h = record {
  status_is = refl;
  text = rw append-nil h;
  note = refl;
  held = same;
  taken = takes_nothing i few;
}
given_ends text i o o' s s' (Some WriteFault) few same quiet h = record { begun = 1; bytes = h.0; text = h.2; held = same }
given_ends text i o o' s s' (Some ShelfFault) few same quiet h = inl (comes_to_nothing o o' s s' _ quiet same)
given_ends text i o o' s s' (Some NoMemory) few same quiet h = comes_to_nothing o o' s s' _ quiet same
given_ends text i o o' s s' e few same quiet h = absurd h

same_end : (status k : ℕ) (line text : List ℕ) → status ≡ k → line ≡ text → ended status line 0 ≡ ended k text 0
same_end status k line text e f = rw (e, f)

pub ended_ends : (status : ℕ) (line : List ℕ) (i : Intake) (o o' : Outlet) (s s' : Stock) (e : Option Ending) → i.given < 2 ^ 64 → s'.held ≡ s.held → Quiet o o' e → EndedAs status line e
    → EndsAs i i o o' s s' e (ended status line 0)
ended_ends status line i o o' s s' (Some (BadText text)) few same quiet h = ends_with 3 (string_bytes text) i _ few (same_end status 3 line (string_bytes text) h.0 h.1)
ended_ends status line i o o' s s' (Some (NotCompatible text)) few same quiet h = ends_with 4 (string_bytes text) i _ few (same_end status 4 line (string_bytes text) h.0 h.1)
ended_ends status line i o o' s s' (Some (NotThere text)) few same quiet h = ends_with 8 (string_bytes text) i _ few (same_end status 8 line (string_bytes text) h.0 h.1)
ended_ends status line i o o' s s' (Some (TooLarge text)) few same quiet h = ends_with 9 (string_bytes text) i _ few (same_end status 9 line (string_bytes text) h.0 h.1)
ended_ends status line i o o' s s' (Some ShelfFault) few same quiet h = inl (comes_to_nothing o o' s s' _ quiet same)
ended_ends status line i o o' s s' (Some NoMemory) few same quiet h = comes_to_nothing o o' s s' _ quiet same
ended_ends status line i o o' s s' e few same quiet h = absurd h

-- what an ending says about the outcome of a command whose steps give the text for standard output
pub text_ends : (step : Step (List ℕ)) (i : Intake) (o o' : Outlet) (s s' : Stock) (e : Option Ending) (x : Outcome) → i.given < 2 ^ 64 → s'.held ≡ s.held
    → Quiet o o' e → TextEnds step o o' e → HasText s.held step x → EndsAs i i o o' s s' e x
text_ends Untold i o o' s s' e x few same quiet h has = absurd has
text_ends (Gives text) i o o' s s' e x few same quiet h has = rw has (given_ends text i o o' s s' e few same quiet h)
text_ends (Ends status line) i o o' s s' e x few same quiet h has = rw has (ended_ends status line i o o' s s' e few same quiet h)

-- the outcome of a command that depends on what a step gives
module _ {A T : Type 0} (m : T → A) (P : A → Outcome → Type 0) where
  free_by : (i : Intake) (o o' : Outlet) (s s' : Stock) (e : Option Ending) (x : Outcome) → s'.held ≡ s.held → Quiet o o' e → IsFree e
      → EndsAs i i o o' s s' e x
  free_by i o o' s s' e x same quiet h = grind (arith, comes_to_nothing)

  -- where the step ended it
  pub ended_by : (step : Step A) (i : Intake) (o o' : Outlet) (s s' : Stock) (e : Ending) (x : Outcome) → i.given < 2 ^ 64 → s'.held ≡ s.held → Quiet o o' (Some e)
      → StepAs {A = A} {T = T} m step (Err e) → HasBy P step x → EndsAs i i o o' s s' (Some e) x
  ended_by Untold i o o' s s' e x few same quiet h has = absurd has
  ended_by (Gives a) i o o' s s' e x few same quiet h has = free_by i o o' s s' (Some e) x same quiet h
  ended_by (Ends status line) i o o' s s' e x few same quiet h has = rw has (ended_ends status line i o o' s s' (Some e) few same quiet h)

  -- where the step gave something
  pub had_by : (step : Step A) (t : T) (x : Outcome) → StepAs m step (Ok t) → HasBy P step x → P (m t) x
  had_by step t x h has = grind arith

-- ---- steps are known where the shelf is, and never end with status 0

abbrev pub IsSound : {A : Type 0} → Option Held → Step A → Type 0
IsSound held Untold = held ≡ None
IsSound held (Gives a) = Unit {0}
IsSound held (Ends status line) = 0 < status

pub sound_next : {A B : Type 0} (held : Option Held) (s : Step A) (f : A → Step B) → IsSound held s → ((a : A) → IsSound held (f a)) → IsSound held (next s f)
sound_next held s f h each = grind arith

pub sound_both : {A : Type 0} (held : Option Held) (s r : Step A) → IsSound held s → IsSound held r → IsSound held (both s r)
sound_both held s r h k = sound_next held s _ h (λ a. sound_next held r _ k (λ b. tt))

sound_under : (held : Option Held) (most : ℕ) (name : List ℕ) (under : Option (List ℕ)) → IsSound held (text_under most name under)
sound_under held most name None = omega arith
sound_under held most name (Some text) = cond_both (nat_le (length text) most) _ _ (IsSound held) (λ e. tt) (λ e. omega arith)

pub sound_fetch : (held : Option Held) (most : ℕ) (name : List ℕ) → IsSound held (fetched most held name)
sound_fetch held most name = grind (arith, sound_under)

pub sound_word : (held : Option Held) (word : SetWord) → IsSound held (fetched_set held word)
sound_word held (Shipped s) = tt
sound_word held (OnShelf name) = sound_next held (fetched longest_file held name) (λ text. Gives (Text name text)) (sound_fetch held longest_file name) (λ text. tt)

sound_said : (held : Option Held) (name : List ℕ) (said : Said) → IsSound held (said_set name said)
sound_said held name said = grind arith

pub sound_set : (held : Option Held) (text : SetText) → IsSound held (set_in text)
sound_set held text = grind (arith, sound_said)

pub sound_word_set : (held : Option Held) (word : SetWord) → IsSound held (word_set held word)
sound_word_set held word = sound_next held (fetched_set held word) set_in (sound_word held word) (λ text. sound_set held text)

pub sound_sets : (held : Option Held) (old new : SetWord) → IsSound held (named_sets held old new)
sound_sets held old new =
    sound_next held (both (fetched_set held old) (fetched_set held new)) sets_in
    (sound_both held (fetched_set held old) (fetched_set held new) (sound_word held old) (sound_word held new))
    (λ texts. sound_both held (set_in texts.old) (set_in texts.new) (sound_set held texts.old) (sound_set held texts.new))

-- ---- where steps give a text for out there is one outcome

pub record OneText (held : Held) (s : Step (List ℕ)) : Type 0 where
  pub outcome : Outcome
  pub is : HasText (Some held) s outcome
  pub only : (other : Outcome) → HasText (Some held) s other → other ≡ outcome

pub one_text : (held : Held) (s : Step (List ℕ)) → IsSound (Some held) s → OneText held s
one_text held Untold sound = absurd (none-some {A = Held} held (sym sound))
one_text held (Gives text) sound = record { outcome = done text (Some held) 0; is = refl; only = λ other has. has }
one_text held (Ends status line) sound = record { outcome = ended status line 0; is = refl; only = λ other has. has }

-- ---- what is held under a name is fetched

pub fetched_gives : (most : ℕ) (map : Held) (name text : List ℕ) → map name ≡ Some text → length text ≤ most
    → fetched most (Some map) name ≡ Gives text
fetched_gives most map name text e fits = rw (e, le-leb (length text) most fits)
