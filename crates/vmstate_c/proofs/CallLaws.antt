-- The result of a call on fresh objects in memory.
use Rattle.std.proofs.Common.{◌≡◌, ◌∙◌, ap, ℕ, true, List, [], Some, None, ◌⊎◌, inl, inr, refl, Bool, false, if◌then◌else◌, arith}
use Rattle.vms_io.specs.{Memory.Supply, Memory.is_empty, Shelves.Held, Told.Intake, Told.Outlet, Told.Stock}
use Rattle.vms_commands.specs.Outcomes.{Outside}
use Rattle.vms_cli.proofs.{OutcomeLaws.complete_holds as call_complete}
use Rattle.vms_cli.specs.{Answers.Answers, Laws.NoneRises}
use Rattle.vmstate_c.specs.{declared.request.Request.Request, Border.do_fit, Returned.do_all_fit, Returned.full, Storing.bytes_of, Storing.places}
use Rattle.vmstate_c.specs.{declared.request.Answer.Answer, declared.request.StoredAnswer.StoredAnswer}
use Rattle.vmstate_c.specs.Calls.{Leaves, NoneFailed, before, file_of, words_of, Comes}
use Rattle.vmstate_c.specs.Laws.{CompleteLaw, CompleteStoredLaw, IsDoable, IsDoneOr}

-- a source of bytes before the first read; no read fails
abbrev fresh : List ℕ → Intake
fresh bytes = record { left = Some bytes; given = 0; faults = 0; promise = true }

abbrev intake_of : Supply → Intake
intake_of s = record { left = Some s.left; given = s.given; faults = s.faults; promise = is_empty s.failing }

abbrev supplied : List ℕ → List ℕ → List ℕ → Supply
supplied bytes pieces failing = record { left = bytes; pieces = pieces; failing = failing; calls = 0; given = 0; faults = 0 }

pub input-is : (s : Supply) (bytes pieces failing input : List ℕ) → s ≡ supplied bytes pieces failing → bytes ≡ input → failing ≡ [] → intake_of s ≡ fresh input
input-is s bytes pieces failing input e f g =
    rw (e, f, g)

abbrev outlet_of : List ℕ → ℕ → Outlet
outlet_of bytes faults = record { written = Some bytes; faults = faults; promise = None }

pub sink-is : (bytes : List ℕ) (faults : ℕ) → bytes ≡ [] → faults ≡ 0 → outlet_of bytes faults ≡ outlet_of [] 0
sink-is bytes faults e f = rw (e, f)

abbrev stock_of : Held → Stock
stock_of held = record { held = Some held; faults = 0; promise = true }

abbrev outside : Intake → Outlet → Outlet → Stock → Outside
outside input out notes shelf = record { input = input; out = out; notes = notes; shelf = shelf }

pub leaves : (request : Request) (status : ℕ) (words : List (List ℕ)) (held kept : Held) (input : Intake) (out notes : Outlet) (after : Outside)
    (text line : List ℕ) → words ≡ words_of request.words.now
    → ((name : List ℕ) → held name ≡ file_of name request.files.now)
    → input ≡ fresh request.input.now → out ≡ outlet_of [] 0 → notes ≡ outlet_of [] 0
    → Answers words status (outside input out notes (stock_of held)) after
    → after.out.written ≡ Some text → after.notes.written ≡ Some line → after.shelf.held ≡ Some kept → NoneFailed after
    → Leaves request status text line kept
leaves request status words held kept input out notes after text line same files i o n answers wrote told now none =
    let began : outside input out notes (stock_of held) ≡ before request.input.now held = rw (i, o, n) in
    record {
      comes = record {
        held = held;
        files = files;
        after = after;
        answers = rw (← began, ← same) answers;
        out_is = wrote;
        notes_is = told;
        none = none;
      };
      held_is = now;
    }

-- ---- a call from C that can succeed does

-- no count rises if none failed
none_rises : (old new : Outside) → NoneFailed old → NoneFailed new → NoneRises old new
none_rises old new a b = record {
  input = λ rose. absurd (omega (arith, rose, a.input, b.input));
  out = λ rose. absurd (omega (arith, rose, a.out, b.out));
  notes = λ rose. absurd (omega (arith, rose, a.notes, b.notes));
  shelf = λ rose. absurd (omega (arith, rose, a.shelf, b.shelf));
}

fits_or : (fit : Bool) (answered status : ℕ) → answered ≡ (if fit then status else 100) → (status ≡ 0) ⊎ (status ≡ 10) → IsDoneOr answered
fits_or true answered status e (inl done) = inl (e ∙ done)
fits_or true answered status e (inr wanting) = inr (inl (e ∙ wanting))
fits_or false answered status e done = inr (inr e)

-- what can be done is, or memory runs out
ends : (request : Request) (status : ℕ) (out notes : List ℕ) → IsDoable request → Comes request status out notes → (status ≡ 0) ⊎ (status ≡ 10)
ends request status out notes can comes =
    let first : NoneFailed (before request.input.now comes.held) = record { input = refl; out = refl; notes = refl; shelf = refl } in
    call_complete (words_of request.words.now) status (before request.input.now comes.held) comes.after (can comes.held comes.files)
    (none_rises _ _ first comes.none) comes.answers

pub complete_holds : CompleteLaw
complete_holds request old new answer can (inl wanting) = inr (inl (ap (λ (a : Answer). a.status) wanting.answer_is))
complete_holds request old new answer can (inr (status, texts, comes, lands)) =
    fits_or (do_fit texts old) answer.status status lands.status_is (ends request status texts.out texts.notes can comes)

pub complete_stored_holds : CompleteStoredLaw
complete_stored_holds request old new answer can (inl lacks) = inr (inl (ap (λ (a : StoredAnswer). a.status) lacks.answer_is))
complete_stored_holds request old new answer can (inr all) =
    fits_or (do_all_fit (full all.texts (places 0 all.stored) (bytes_of all.stored)) old) answer.status all.status all.lands.status_is
    (ends request all.status all.texts.out all.texts.notes can all.leaves.comes)
