-- The result of a call, and the contents of the buffers after it.
use Rattle.std.specs.Prelude.{◌≡◌, ◌&&◌, ◌⊎◌, ℕ, Bool, List, ◌++◌, length, drop, nat_le, if◌then◌else◌}
use Rattle.vmstate_c.specs.Calls.{Comes}
use Rattle.vmstate_c.specs.declared.request.Answer.{Answer}
use Rattle.vmstate_c.specs.declared.request.Request.{Request}

-- The texts of standard output and standard error, or the buffers for them.
pub record Both : Type 0 where
  pub out : List ℕ
  pub notes : List ℕ

-- These two as one.
abbrev pub both : List ℕ → List ℕ → Both
both out notes = record { out = out; notes = notes }

-- Whether each text fits its buffer.
abbrev pub do_fit : Both → Both → Bool
do_fit texts rooms = nat_le (length texts.out) (length rooms.out) && nat_le (length texts.notes) (length rooms.notes)

-- A buffer with these items at its beginning.
abbrev pub put_in : {A : Type 0} → List A → List A → List A
put_in items room = items ++ drop (length items) room

-- The texts are in the buffers, with their status; or one buffer is too small and both are
-- unchanged. In both cases the result has their lengths.
pub record Lands (status : ℕ) (texts old new : Both) (answer : Answer) : Type 0 where
  pub status_is : answer.status ≡ (if do_fit texts old then status else 100)
  pub out : new.out ≡ (if do_fit texts old then put_in texts.out old.out else old.out)
  pub notes : new.notes ≡ (if do_fit texts old then put_in texts.notes old.notes else old.notes)
  pub lengths : (answer.out ≡ length texts.out) × (answer.notes ≡ length texts.notes)

-- Memory ran out, and the buffers are unchanged.
pub record IsWanting (old new : Both) (answer : Answer) : Type 0 where
  pub answer_is : answer ≡ record { status = 10; out = 0; notes = 0 }
  pub rooms : new ≡ old

-- The result of the top call is returned, unless memory runs out.
abbrev pub Answered : Request → Both → Both → Answer → Type 0
Answered request old new answer =
    IsWanting old new answer
    ⊎ ((status : ℕ) × (texts : Both) × Comes request status texts.out texts.notes × Lands status texts old new answer)
