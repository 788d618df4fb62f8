-- Each call has one outcome, and what can be done is done; the program's numbers and texts.
use Rattle.vms_cli.proofs.{Facade.NoneRises, Entries.row_of, Entries.words_ask, RowLemmas.IsDone}
use Rattle.vms_cli.proofs.Facade.{refl, LimitsLaw, ◌≡◌, ℕ, zero, suc, ◌<◌, Bool, true, nat_lt, List, [], ◌∷◌, length, get_or, arith, ltb-true}
use Rattle.vms_cli.proofs.Facade.{and_parts, digits, list_all, default_image, first, device_at, cell_name, device_elements, names_of, newest, Option, Ending}
use Rattle.vms_cli.proofs.Facade.{Frame, Runs, Asked, task_of, None, take_all, le_refl, inl, inr, Some, Keeps, AppendsPrefix, Tells, write_fault, PromisesKept}
use Rattle.vms_cli.proofs.Facade.{CompleteLaw, AmpleLaw, ◌+◌, ◌≤◌, max, ◌⊎◌, length-append, take, IfSome, IsSomeAnd, ap, ◌∙◌, le-max_left}
use Rattle.vms_cli.proofs.Facade.{le-max_right, length-take, Appends, Rose, KeepsPromise, Held, HoldsAll, Outlet, IsBytes, bad_words, read_fault, shelf_fault}
use Rattle.vms_cli.proofs.Facade.{out_of_memory, Stands, Part, Outcome, OutFault, NotesFault, ShelfFault, WantsMemory, ComesTo, FailsToStore, TellsShelfFault}
use Rattle.vms_cli.proofs.Facade.{DoesOrStops, ended, text_begun, Outside, HasPart, CanBeAsked, CanBeDone, HasOneOutcome, OutcomeLaw, HasRoom, IsAmple}
use Rattle.vms_commands.specs.Outcomes.{text_of, ReadFault}
use Rattle.vms_commands.specs.declared.ending.Ending.TheVariants as endings

-- ---- the numbers by which the program goes

pub limits_hold : LimitsLaw
limits_hold = search arith

-- ---- the paths of the newest set's cells are short

abbrev are_short : List (List ℕ) → Bool
are_short names = list_all (λ name. nat_lt (length name) 64) names

short_at : (names : List (List ℕ)) (c : ℕ) → are_short names ≡ true → length (get_or names c []) < 64
short_at [] c all = omega arith
short_at (name ∷ names) zero all = ltb-true (length name) 64 (and_parts (nat_lt (length name) 64) (are_short names) all).0
short_at (name ∷ names) (suc c) all = short_at names c (and_parts (nat_lt (length name) 64) (are_short names) all).1

abbrev names_at : ℕ → List (List ℕ)
names_at k = names_of (device_elements newest (device_at newest k) (default_image newest (device_at newest k)))

all_short : (k : ℕ) → k < length newest.devices → are_short (names_at k) ≡ true
unfolding first digits
all_short (suc (suc (suc (suc (suc k))))) lt = absurd (omega arith)
all_short _ lt = refl

pub path_short : (k c : ℕ) → k < length newest.devices → length (cell_name newest (device_at newest k) c) < 64
path_short k c lt = short_at _ c (all_short k lt)

-- ---- how a command runs, by the command that the words name

pub asked_runs : {old new : Frame} {e : Option Ending} (asked own : Option Asked) → own ≡ asked → Runs (task_of own) old new e → Runs (task_of asked) old new e
asked_runs {old} {new} {e} asked own same h = rw same at h

-- ---- the flush of the program's texts

-- what was written is what the writer has
pub kept_flushed : (old new writer : Option (List ℕ)) → Keeps old new → new ≡ writer → Keeps old writer
kept_flushed old new writer kept same = rw same at kept

-- what standard error has if standard output failed at the flush
pub told_late : (old new : Option (List ℕ)) (faults faults' status : ℕ)
    → Tells (record { written = old; faults = faults; promise = None }) (record { written = new; faults = faults'; promise = None })
    (Some endings.WriteFault) status
    → AppendsPrefix old new write_fault
told_late old new faults faults' status (inl told) =
    (length write_fault, le_refl (length write_fault), rw (take_all (length write_fault) write_fault (le_refl (length write_fault))) told.1)
told_late old new faults faults' status (inr told) = told.2

-- ---- each call has one outcome, and what can be done is done

one_of_all : (asked : Option Asked) (input : List ℕ) (held : Held) → IsBytes input → HoldsAll held → CanBeAsked asked → HasOneOutcome asked input held
one_of_all None input held ok holds can = record { outcome = ended 2 bad_words 0; is = refl; only = λ other e. e }
one_of_all (Some asked) input held ok holds can = (row_of asked).one input held ok holds can

pub outcome_holds : OutcomeLaw
outcome_holds words input held ok holds = one_of_all _ input held ok holds (words_ask words)

-- why a call stops on its way
abbrev StopsAt : ℕ → Outside → Outside → Outcome → Type 0
StopsAt status old new o =
    ReadFault status old new ⊎ OutFault status old new ⊎ (NotesFault status old new × HasPart o.note old.notes.written new.notes.written)
    ⊎ ShelfFault status old new ⊎ WantsMemory status old new

-- ---- completeness

can_be : (asked : Option Asked) (input : Option (List ℕ)) (held : Option Held) → CanBeAsked asked → IfSome held HoldsAll → CanBeDone asked input held
    → IsDone (task_of asked) input held
can_be None input held ask octets can = absurd can
can_be (Some asked) input held ask octets can = (row_of asked).done input held octets ask can

-- no more bytes than there are
begun_short : (parts : List Part) (k n : ℕ) → length (text_begun parts k n) ≤ length (text_of parts)
begun_short parts zero n = omega arith
begun_short [] (suc k) n = omega arith
begun_short (part ∷ parts) (suc zero) n = omega (arith, length-take n part.text, length-append part.text (text_of parts))
begun_short (part ∷ parts) (suc (suc k)) n =
    omega (arith, begun_short parts (suc k) n, length-append part.text (text_begun parts (suc k) n), length-append part.text (text_of parts))

done_short : (parts : List Part) (k : ℕ) → length (text_of (take k parts)) ≤ length (text_of parts)
done_short parts zero = omega arith
done_short [] (suc k) = omega arith
done_short (part ∷ parts) (suc k) =
    omega (arith, done_short parts k, length-append part.text (text_of (take k parts)), length-append part.text (text_of parts))

-- a sink with room for what was written has no fault
room_kept : (p p' : Option ℕ) (w w' : Option (List ℕ)) (faults n : ℕ) (text : List ℕ) → IsSomeAnd p (λ room. IsSomeAnd w (λ old. length old + n < room))
    → length text ≤ n → Appends w w' text → p' ≡ p → KeepsPromise p' w' faults → faults ≡ 0
room_kept (Some most) p' (Some old) None faults n text room short appends same keeps = absurd appends
room_kept (Some most) p' (Some old) (Some new) faults n text room short appends same keeps =
    rw same at keeps (omega (arith, ap length appends, length-append old text))
room_kept _ p' _ w' faults n text room short appends same keeps = absurd room

never_rose : (before now : ℕ) → now ≡ 0 → Rose before now → ⊥
never_rose before now none rose = omega arith

module _ (old new : Outlet) (n : ℕ) (room : HasRoom old n) (same : new.promise ≡ old.promise) (keeps : KeepsPromise new.promise new.written new.faults) where
  no_fault : (text : List ℕ) → length text ≤ n → Appends old.written new.written text → new.faults ≡ 0
  no_fault text short appends = room_kept _ _ _ _ _ n text room short appends same keeps

  -- a prefix of a line
  line_short : (line : List ℕ) → length line ≤ n → AppendsPrefix old.written new.written line → new.faults ≡ 0
  line_short line short part = no_fault (take part.0 line) (omega (arith, length-take part.0 line)) part.2

  part_short : (note : List ℕ) → 14 ≤ n → length note ≤ n → HasPart note old.written new.written → new.faults ≡ 0
  part_short note enough short (inl part) = line_short note short part
  part_short note enough short (inr (inl part)) = line_short _ (omega arith) part
  part_short note enough short (inr (inr (inl part))) = line_short _ (omega arith) part
  part_short note enough short (inr (inr (inr (inl part)))) = line_short _ (omega arith) part
  part_short note enough short (inr (inr (inr (inr part)))) = line_short _ (omega arith) part

module _ (status : ℕ) (old new : Outside) (o : Outcome) (ample : IsAmple old o) (kept : PromisesKept new) (stay : Stands old new) where
  note_short : (text : List ℕ) → length text ≤ max 14 (length o.note) → Appends old.notes.written new.notes.written text → new.notes.faults ≡ 0
  note_short = no_fault old.notes new.notes (max 14 (length o.note)) ample.notes stay.notes.promise kept.notes

  fault_short : (text : List ℕ) → length text ≤ 14 → Appends old.notes.written new.notes.written text → new.notes.faults ≡ 0
  fault_short text few = note_short text (omega (arith, le-max_left 14 (length o.note)))

  -- what is written on notes of a call that stops is short
  stop_short : StopsAt status old new o → new.notes.faults ≡ 0
  stop_short (inl read) = fault_short read_fault (omega arith) read.3
  stop_short (inr (inl write)) = fault_short write_fault (omega arith) write.2
  stop_short (inr (inr (inl notes))) =
      part_short old.notes new.notes (max 14 (length o.note)) ample.notes stay.notes.promise kept.notes o.note
      (le-max_left 14 (length o.note)) (le-max_right 14 (length o.note)) notes.1
  stop_short (inr (inr (inr (inl shelf)))) = fault_short shelf_fault (omega arith) shelf.2
  stop_short (inr (inr (inr (inr memory)))) = fault_short out_of_memory (omega arith) memory.1

  out_short : (text : List ℕ) → length text ≤ length (text_of o.parts) → Appends old.out.written new.out.written text → new.out.faults ≡ 0
  out_short = no_fault old.out new.out (length (text_of o.parts)) ample.out stay.out.promise kept.out

  come_short : ComesTo old.out new.out old.shelf new.shelf o.parts ⊎ (TellsShelfFault status old new × FailsToStore old.out new.out old.shelf new.shelf o.parts)
      → new.out.faults ≡ 0
  come_short (inl comes) = out_short (text_begun o.parts comes.begun comes.bytes) (begun_short o.parts comes.begun comes.bytes) comes.text
  come_short (inr fails) = out_short (text_of (take fails.1.done o.parts)) (done_short o.parts fails.1.done) fails.1.text

  none-rises : new.out.faults ≡ 0 → new.notes.faults ≡ 0 → NoneRises old new
  none-rises out notes = search (arith, never_rose)

  rises_never : DoesOrStops status old new o → NoneRises old new
  rises_never (inl does) = none-rises (out_short (text_of o.parts) (omega arith) does.text) (note_short o.note (le-max_right 14 (length o.note)) does.note)
  rises_never (inr stops) = none-rises (come_short stops.come) (stop_short stops.why)

pub ample_holds : AmpleLaw
ample_holds words status old new o is ample kept a = rises_never status old new o ample kept a.stands (a.outcome o is)

comes : (status : ℕ) (old new : Outside) (o : Outcome) → o.status ≡ 0 → NoneRises old new → DoesOrStops status old new o → (status ≡ 0) ⊎ (status ≡ 10)
comes status old new o done_so never (inl does) = inl (does.same ∙ done_so)
comes status old new o done_so never (inr stops) = by stops.why
  where
    by : StopsAt status old new o → (status ≡ 0) ⊎ (status ≡ 10)
    by (inl read) = absurd (never.input read.1)
    by (inr (inl write)) = absurd (never.out write.1)
    by (inr (inr (inl notes))) = absurd (never.notes notes.0.1)
    by (inr (inr (inr (inl shelf)))) = absurd (never.shelf shelf.1)
    by (inr (inr (inr (inr memory)))) = inr memory.0

pub complete_holds : CompleteLaw
complete_holds words status old new can never a =
    let d = can_be _ _ _ (words_ask words) a.octets can in
    comes status old new _ d.status never (a.outcome d.outcome d.is)
