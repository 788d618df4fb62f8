-- The results of events and questions, for a board or none.
use Rattle.std.specs.Prelude.{◌≡◌, ◌⊎◌, ◌==◌, ◌-◌, ◌≤◌, ℕ, Bool, true, false, nat_lt, if◌then◌else◌, IsTrue, List, [], ◌++◌, length, drop, replicate, Option, Some, None}
use Rattle.std.specs.Option.{option_map}
use Rattle.dev_board.specs.Step.{names_wire}
use Rattle.dev_board.specs.Touch.{saying}
use Rattle.dev_board.specs.Wires.{is_wire}
use Rattle.dev_board.specs.declared.event.Answer.{Answer}
use Rattle.dev_board.specs.declared.event.Event.{Event}
use Rattle.dev_board.specs.declared.event.Event.TheVariants.{Wait, Wire, Ack}
use Rattle.vmstate_board_c.specs.Kinds.{IsDueAt, is_made, now_of, output_of, power_on_of, step_of}
use Rattle.vmstate_board_c.specs.declared.answer.CAnswer.{CAnswer}
use Rattle.vmstate_board_c.specs.declared.answer.CNumber.{CNumber}
use Rattle.vmstate_board_c.specs.declared.handle.Handle.{Handle}
use Rattle.vmstate_board_c.specs.declared.kinds.AnyBoard.{AnyBoard}

-- The board that a handle owns, if it owns one.
abbrev pub board_of : Handle → Option AnyBoard
board_of handle = option_map (λ held. held.board) handle.seal.held

-- ---- events

-- The value of an answer, 0 if there is none.
abbrev pub value_said : Option ℕ → ℕ
value_said None = 0
value_said (Some value) = value

-- The C structure of an answer: its output is 1 if high, and zeros follow the bytes that left.
abbrev pub said : Option ℕ → Bool → List ℕ → CAnswer
said value int sent = record {
  status = 0;
  value = value_said value;
  output = if int then 1 else 0;
  count = length sent;
  sent = sent ++ drop (length sent) (replicate 17 0);
}

-- The result of a call that does nothing.
abbrev pub nothing_said : ℕ → CAnswer
nothing_said status = record { status = status; value = 0; output = 0; count = 0; sent = replicate 17 0 }

-- `acts event board` is the result of the event now, and the board after it.
abbrev pub acts : Event → AnyBoard → CAnswer × Option AnyBoard
acts event board = let done = step_of event board in (said done.0.value done.0.int done.0.sent.items, Some done.1)

-- The result and the board after time has passed up to `moment`.
abbrev pub passes : ℕ → AnyBoard → CAnswer × Option AnyBoard
passes moment board = acts (Wait (moment - now_of board)) board

-- The result and the board after time has passed and then an event was applied. The value and the
-- output are those after the event, and the bytes are all that left.
abbrev pub acts_after : ℕ → Event → AnyBoard → CAnswer × Option AnyBoard
acts_after ns event board =
    let first = step_of (Wait ns) board in
    let last = step_of event first.1 in
    (said last.0.value last.0.int (first.0.sent.items ++ last.0.sent.items), Some last.1)

-- The result and the board after an event at a moment that isn't before the board's. At the board's
-- own moment no time passes.
abbrev pub acts_at : ℕ → Event → AnyBoard → CAnswer × Option AnyBoard
acts_at moment event board =
    if moment == now_of board then acts event board else acts_after (moment - now_of board) event board

-- Time has passed up to a moment, and no byte left: the moment was the board's own, or a wait up to
-- it sent none.
abbrev pub Reaches : ℕ → (old new : AnyBoard) → Type 0
Reaches moment old new =
    (((moment == now_of old) ≡ true) × (new ≡ old))
    ⊎ (((moment == now_of old) ≡ false) × (now_of old ≤ moment)
    × ((int : Bool) × ((saying None int, new) ≡ step_of (Wait (moment - now_of old)) old)))

-- The event is any but time that passes. It sends no byte.
abbrev pub IsAccess : Event → Type 0
IsAccess (Wait ns) = ⊥
IsAccess _ = Unit {0}

-- An event but a wait, and only on a wire that the board has.
pub record MayAct (event : Event) : Type 0 where
  pub wire : IsTrue (names_wire event)
  pub access : IsAccess event

-- The result of a call at a moment, and the board after it. The status is 3 if there is no board,
-- and 4 if the moment is before the board's.
abbrev pub at_moment : ℕ → (AnyBoard → CAnswer × Option AnyBoard) → Option AnyBoard → CAnswer × Option AnyBoard
at_moment moment does None = (nothing_said 3, None)
at_moment moment does (Some board) = if nat_lt moment (now_of board) then (nothing_said 4, Some board) else does board

-- The result of an event at a moment, and the board after it.
abbrev pub event_at : ℕ → Event → Option AnyBoard → CAnswer × Option AnyBoard
event_at moment event board = at_moment moment (acts_at moment event) board

-- The result of time that passes up to a moment, and the board after it.
abbrev pub time_to : ℕ → Option AnyBoard → CAnswer × Option AnyBoard
time_to moment board = at_moment moment (passes moment) board

-- The result of a wire that rises or falls. The status is 2 if there is no such wire.
abbrev pub wire_at : ℕ → ℕ → Bool → Option AnyBoard → CAnswer × Option AnyBoard
wire_at moment input up board =
    if is_wire input then event_at moment (Wire input up) board else (nothing_said 2, board)

-- The result of an acknowledged interrupt. The status is 3 if there is no board.
abbrev pub acknowledges : Option AnyBoard → CAnswer × Option AnyBoard
acknowledges None = (nothing_said 3, None)
acknowledges (Some board) = acts Ack board

-- ---- questions

-- The result with a number.
abbrev pub number : ℕ → CNumber
number n = record { status = 0; number = n }

-- The result without a number.
abbrev pub no_number : ℕ → CNumber
no_number status = record { status = status; number = 0 }

-- The result with a truth value, as 1 or 0.
abbrev pub flag : Bool → CNumber
flag b = number (if b then 1 else 0)

-- The result for the board, if there is one. Otherwise the status is 3.
abbrev pub told : (AnyBoard → CNumber) → Option AnyBoard → CNumber
told answer None = no_number 3
told answer (Some board) = answer board

-- Whether OUT of a counter is high. The status is 2 if there is no such counter.
abbrev pub output_told : ℕ → Option AnyBoard → CNumber
output_told counter board =
    if nat_lt counter 3 then told (λ m. flag (output_of counter m)) board else no_number 2

-- The wait as a number, 2^64 - 1 if there is none.
abbrev pub wait_number : Option ℕ → CNumber
wait_number None = number 18446744073709551615
wait_number (Some ns) = number ns

-- `told` is the number of the least wait that shows something. The status is 3 if there is no board.
abbrev pub DueTold : Option AnyBoard → CNumber → Type 0
DueTold None told = told ≡ no_number 3
DueTold (Some board) told = (due : Option ℕ) × IsDueAt board due × (told ≡ wait_number due)

-- ---- new boards

-- The board was made, or memory ran out and nothing changed. If `exists` is false, the status is 2
-- and nothing changed.
abbrev pub MadeIf : Bool → AnyBoard → (old new : Option AnyBoard) → ℕ → Type 0
MadeIf true board old new status = ((status ≡ 0) × (new ≡ Some board)) ⊎ ((status ≡ 10) × (new ≡ old))
MadeIf false board old new status = (status ≡ 2) × (new ≡ old)

-- The board of kind `kind` and level `level` was made, or the status says why not.
abbrev pub Made : (kind level : ℕ) → (old new : Option AnyBoard) → ℕ → Type 0
Made kind level old new status = MadeIf (is_made kind level) (power_on_of kind level) old new status
