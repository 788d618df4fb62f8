-- The result of a call that returns the files it stored, and the contents of the buffers after it.
use Rattle.std.specs.Prelude.{◌≡◌, ◌&&◌, ◌⊎◌, ℕ, Bool, List, length, nat_le, if◌then◌else◌}
use Rattle.vms_io.specs.Shelves.{Held}
use Rattle.vmstate_c.specs.Border.{Both, do_fit, put_in}
use Rattle.vmstate_c.specs.Calls.{Leaves}
use Rattle.vmstate_c.specs.Storing.{Entry, IsStored, bytes_of, places}
use Rattle.vmstate_c.specs.declared.request.Request.{Request}
use Rattle.vmstate_c.specs.declared.request.Stored.{Stored}
use Rattle.vmstate_c.specs.declared.request.StoredAnswer.{StoredAnswer}

-- The two texts, where the stored files are, and their names and bytes; or the buffers for these.
pub record Full : Type 0 where
  pub texts : Both
  pub files : List Stored
  pub bytes : List ℕ

-- These as one.
abbrev pub full : Both → List Stored → List ℕ → Full
full texts files bytes = record { texts = texts; files = files; bytes = bytes }

-- Whether everything fits its buffer.
abbrev pub do_all_fit : Full → Full → Bool
do_all_fit given rooms =
    do_fit given.texts rooms.texts
    && (nat_le (length given.files) (length rooms.files) && nat_le (length given.bytes) (length rooms.bytes))

-- Everything is in the buffers, with the status; or one buffer is too small and all are unchanged. In both cases the
-- result has the lengths.
pub record LandsAll (status : ℕ) (given old new : Full) (answer : StoredAnswer) : Type 0 where
  pub status_is : answer.status ≡ (if do_all_fit given old then status else 100)
  pub out : new.texts.out ≡ (if do_all_fit given old then put_in given.texts.out old.texts.out else old.texts.out)
  pub notes : new.texts.notes ≡ (if do_all_fit given old then put_in given.texts.notes old.texts.notes else old.texts.notes)
  pub files : new.files ≡ (if do_all_fit given old then put_in given.files old.files else old.files)
  pub bytes : new.bytes ≡ (if do_all_fit given old then put_in given.bytes old.bytes else old.bytes)
  pub texts_long : (answer.out ≡ length given.texts.out) × (answer.notes ≡ length given.texts.notes)
  pub files_long : (answer.files ≡ length given.files) × (answer.bytes ≡ length given.bytes)

-- Memory ran out, and the buffers are unchanged.
pub record LacksMemory (old new : Full) (answer : StoredAnswer) : Type 0 where
  pub answer_is : answer ≡ record { status = 10; out = 0; notes = 0; files = 0; bytes = 0 }
  pub rooms : new ≡ old

-- What the top call returns and stores.
pub record ReturnsAll (request : Request) (old new : Full) (answer : StoredAnswer) : Type 0 where
  pub status : ℕ
  pub texts : Both
  pub held : Held
  pub leaves : Leaves request status texts.out texts.notes held
  pub stored : List Entry
  pub stores : IsStored request.files.now held stored
  pub lands : LandsAll status (full texts (places 0 stored) (bytes_of stored)) old new answer

-- That is returned, unless memory runs out.
abbrev pub Returned : Request → Full → Full → StoredAnswer → Type 0
Returned request old new answer = LacksMemory old new answer ⊎ ReturnsAll request old new answer
