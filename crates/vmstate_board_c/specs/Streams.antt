-- The results of saving and restoring, for a board or none.
use Rattle.std.specs.Prelude.{◌≡◌, ◌⊎◌, ◌&&◌, ℕ, Bool, true, false, nat_le, nat_lt, if◌then◌else◌, Result, Ok, Err, OnErr, List, ◌++◌, length, drop, Option, Some, None}
use Rattle.vms_board.specs.Comes.{RestoreReads}
use Rattle.vms_board.specs.Family.{Family}
use Rattle.vms_board.specs.Saving.{saved_stream, stream_with}
use Rattle.vms_board.specs.Standing.{Standing}
use Rattle.vms_board.specs.declared.restore.RestoreFault.{RestoreFault}
use Rattle.vms_board.specs.declared.restore.RestoreFault.TheVariants as faults
use Rattle.vms_frames.specs.declared.fault.Refusal.{Refusal}
use Rattle.vms_io.specs.Told.{Intake}
use Rattle.vmstate_board_c.specs.Answers.{no_number}
use Rattle.vmstate_board_c.specs.Kinds.{HoldsBetween, by_kind}
use Rattle.vms_spec.specs.Reasons.{reason_number, rule_of}
use Rattle.vmstate_board_c.specs.declared.answer.CNumber.{CNumber}
use Rattle.vmstate_board_c.specs.declared.kinds.AnyBoard.{AnyBoard}
use Rattle.vmstate_board_c.specs.declared.stream.CRestored.{CRestored}

-- ---- saving

-- Whether the board may be saved under this set: one from its number to the newest of its kind.
abbrev pub may_save_in : {S : Type 0} → Family S → ℕ → Standing S → Bool
may_save_in f set board = nat_le (f.number board.state) set && nat_le set f.newest

-- Whether a board of any kind may be saved under this set.
abbrev pub may_save : ℕ → AnyBoard → Bool
may_save set board = by_kind (λ S f b. may_save_in f set b) board

-- The board's stream under this set, with or without its description.
abbrev pub stream_in : {S : Type 0} → Family S → ℕ → Bool → Standing S → List ℕ
stream_in f set describe board =
    if describe then saved_stream f set board.state else stream_with f set board.state None

-- The stream of a board of any kind.
abbrev pub stream_of : ℕ → Bool → AnyBoard → List ℕ
stream_of set describe board = by_kind (λ S f b. stream_in f set describe b) board

-- The bytes are at the beginning of the buffer, or it is too small for them and unchanged.
pub record Lands (bytes old new : List ℕ) (answer : CNumber) : Type 0 where
  pub length_is : answer.number ≡ length bytes
  pub status_is : answer.status ≡ (if nat_lt (length old) (length bytes) then 100 else 0)
  pub room_is : new ≡ (if nat_lt (length old) (length bytes) then old else bytes ++ drop (length bytes) old)

-- The bytes were written, or memory ran out and the buffer is unchanged. If the board can't be
-- saved under this set, the buffer is unchanged.
abbrev pub SavedIf : Bool → List ℕ → (old new : List ℕ) → CNumber → Type 0
SavedIf true bytes old new answer = Lands bytes old new answer ⊎ ((answer ≡ no_number 10) × (new ≡ old))
SavedIf false bytes old new answer = (answer ≡ no_number 2) × (new ≡ old)

-- The result of a save. The status is 3 if there is no board.
abbrev pub HasSaved : ℕ → Bool → Option AnyBoard → (old new : List ℕ) → CNumber → Type 0
HasSaved set describe None old new answer = (answer ≡ no_number 3) × (new ≡ old)
HasSaved set describe (Some board) old new answer =
    SavedIf (may_save set board) (stream_of set describe board) old new answer

-- ---- restoring

-- A source in memory, before the first read. No read fails.
abbrev pub fresh : List ℕ → Intake
fresh bytes = record { left = Some bytes; given = 0; faults = 0; promise = true }

-- The device that a refusal names, or 2^32 - 1 if it names none.
abbrev pub device_said : Option ℕ → ℕ
device_said None = 4294967295
device_said (Some device) = device

-- The number of the device's rule that fails, or 0 if no rule does.
abbrev pub rule_said : Option ℕ → ℕ
rule_said None = 0
rule_said (Some rule) = rule

-- The result of a call that restores nothing.
abbrev pub nothing_restored : ℕ → CRestored
nothing_restored status = record { status = status; device = 0; offset = 0; reason = 0; rule = 0 }

-- The result of a refusal.
abbrev pub refused_said : Refusal → CRestored
refused_said refusal = record {
  status = 1;
  device = device_said refusal.section;
  offset = refusal.at;
  reason = reason_number refusal.reason;
  rule = rule_said (rule_of refusal.reason);
}

-- The result of a restore, whose stream has `taken` bytes. No read from memory fails.
abbrev pub Said : ℕ → Result Unit RestoreFault → CRestored → Type 0
Said taken (Ok u) answer = answer ≡ record { status = 0; device = 0; offset = taken; reason = 0; rule = 0 }
Said taken (Err (faults.Refused refusal)) answer = answer ≡ refused_said refusal
Said taken (Err faults.ReadFault) answer = ⊥

-- The result is that of restoring the board from these bytes.
pub record IsRestored {S : Type 0} (f : Family S) (stream : List ℕ) (old new : Standing S) (answer : CRestored) : Type 0 where
  pub result : Result Unit RestoreFault
  pub after : Intake
  pub reads : RestoreReads f (f.number old.state) (fresh stream) after new result
  pub same : OnErr result (new ≡ old)
  pub said : Said new.taken result answer

-- The same for a board of any kind, which stays of its kind.
abbrev pub RestoredTo : List ℕ → AnyBoard → AnyBoard → CRestored → Type 0
RestoredTo stream old new answer = HoldsBetween (λ S f before after. IsRestored f stream before after answer) old new

-- The same for a board, if there is one. Otherwise the status is 3.
abbrev pub HasRestored : List ℕ → (old new : Option AnyBoard) → CRestored → Type 0
HasRestored stream None new answer = (answer ≡ nothing_restored 3) × (new ≡ None)
HasRestored stream (Some old) None answer = ⊥
HasRestored stream (Some old) (Some new) answer = RestoredTo stream old new answer
