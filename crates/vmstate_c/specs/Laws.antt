-- Consequences for all calls.
use Rattle.std.specs.Prelude.{◌≡◌, ◌⊎◌, ℕ, List, Some}
use Rattle.vms_io.specs.Shelves.{Held}
use Rattle.vms_cli.specs.Commands.{asked_of}
use Rattle.vms_cli.specs.Laws.{CanBeDone}
use Rattle.vmstate_c.specs.Border.{Answered, Both}
use Rattle.vmstate_c.specs.Calls.{file_of, words_of}
use Rattle.vmstate_c.specs.Returned.{Full, Returned}
use Rattle.vmstate_c.specs.declared.request.Answer.{Answer}
use Rattle.vmstate_c.specs.declared.request.Request.{Request}
use Rattle.vmstate_c.specs.declared.request.StoredAnswer.{StoredAnswer}

-- The input and the files have what the words need.
abbrev pub IsDoable : Request → Type 0
IsDoable request = (held : Held) → ((name : List ℕ) → held name ≡ file_of name request.files.now)
    → CanBeDone (asked_of (words_of request.words.now)) (Some request.input.now) (Some held)

-- The status is 0, or 10 if memory runs out, or 100 if a buffer is too small.
abbrev pub IsDoneOr : ℕ → Type 0
IsDoneOr status = (status ≡ 0) ⊎ ((status ≡ 10) ⊎ (status ≡ 100))

-- If they do, it is.
abbrev pub CompleteLaw : Type 0
CompleteLaw = (request : Request) (old new : Both) (answer : Answer) → IsDoable request → Answered request old new answer
    → IsDoneOr answer.status

-- The same for a call that returns the files it stored.
abbrev pub CompleteStoredLaw : Type 0
CompleteStoredLaw = (request : Request) (old new : Full) (answer : StoredAnswer) → IsDoable request → Returned request old new answer
    → IsDoneOr answer.status
