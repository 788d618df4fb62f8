-- The boards of each kind.
use Rattle.std.specs.Prelude.{ℕ, ◌==◌, Bool, false, ◌&&◌, ◌||◌, nat_le, if◌then◌else◌, Option}
use Rattle.dev_base.specs.declared.limits.TheConstants.{NEWEST}
use Rattle.dev_board.specs.State.{State}
use Rattle.dev_board.specs.declared.event.Answer.{Answer}
use Rattle.dev_board.specs.declared.event.Event.{Event}
use Rattle.dev_clock.specs.State.{ClockState}
use Rattle.dev_due.specs.Due.{IsDue}
use Rattle.vms_board.specs.Clock.{clock}
use Rattle.vms_board.specs.Family.{Family}
use Rattle.vms_board.specs.Isa.{isa}
use Rattle.vms_board.specs.Standing.{Standing}
use Rattle.vms_rtc.specs.declared.limits.TheConstants.{NEWEST_CLOCK}
use Rattle.vmstate_board_c.specs.declared.kinds.AnyBoard.{AnyBoard}
use Rattle.vmstate_board_c.specs.declared.kinds.AnyBoard.TheVariants.{Isa, Clock}

-- Whether such a board exists: isa-1 to the newest have kind 0, and clk-1 and clk-2 have kind 1.
abbrev pub is_made : (kind level : ℕ) → Bool
is_made kind level =
    if kind == 0 then nat_le 1 level && nat_le level NEWEST
    else (if kind == 1 then nat_le 1 level && nat_le level NEWEST_CLOCK else false)

-- A board at power on, which was never restored.
abbrev pub on : {S : Type 0} → Family S → ℕ → Standing S
on f level = record { state = f.power_on level; taken = 0 }

-- The board of kind `kind` and level `level` at power on.
abbrev pub power_on_of : (kind level : ℕ) → AnyBoard
power_on_of kind level = if kind == 0 then Isa (on isa level) else Clock (on clock level)

-- The answer and the board after an event.
abbrev pub step_in : {S : Type 0} → Family S → Event → Standing S → Answer × Standing S
step_in f event board = let done = f.step event board.state in (done.0, record board { state = done.1 })

-- The answer and the board, of any kind, after an event.
abbrev pub step_of : Event → AnyBoard → Answer × AnyBoard
step_of event (Isa board) = let done = step_in isa event board in (done.0, Isa done.1)
step_of event (Clock board) = let done = step_in clock event board in (done.0, Clock done.1)

-- What a family says of a board of its kind, said of a board of any kind.
abbrev pub by_kind : {X : Type 0} → ((S : Type 0) → Family S → Standing S → X) → AnyBoard → X
by_kind says (Isa board) = says State isa board
by_kind says (Clock board) = says ClockState clock board

-- What holds in a family of a board of its kind holds of a board of any kind.
abbrev pub HoldsOf : ((S : Type 0) → Family S → Standing S → Type 0) → AnyBoard → Type 0
HoldsOf P (Isa board) = P State isa board
HoldsOf P (Clock board) = P ClockState clock board

-- Two boards are of one kind, and this holds of them in its family.
abbrev pub HoldsBetween : ((S : Type 0) → Family S → (old new : Standing S) → Type 0) → (old new : AnyBoard) → Type 0
HoldsBetween R (Isa old) (Isa new) = R State isa old new
HoldsBetween R (Clock old) (Clock new) = R ClockState clock old new
HoldsBetween R _ _ = ⊥

-- The present moment.
abbrev pub now_of : AnyBoard → ℕ
now_of board = by_kind (λ S f b. f.moment b.state) board

-- The level, or the version of the clock chip.
abbrev pub level_of : AnyBoard → ℕ
level_of board = by_kind (λ S f b. f.number b.state) board

-- Whether the interrupt output is high.
abbrev pub int_of : AnyBoard → Bool
int_of board = by_kind (λ S f b. f.int b.state) board

-- Whether OUT of the counter is high.
abbrev pub output_of : ℕ → AnyBoard → Bool
output_of counter board = by_kind (λ S f b. f.output counter b.state) board

-- Whether a device uses the port.
abbrev pub has_port_of : ℕ → AnyBoard → Bool
has_port_of port board = by_kind (λ S f b. f.has_port port b.state) board

-- The number of bytes that may arrive on the serial line before one is lost.
abbrev pub room_of : AnyBoard → ℕ
room_of board = by_kind (λ S f b. f.room b.state) board

-- The time of one character on the serial line.
abbrev pub character_of : AnyBoard → ℕ
character_of board = by_kind (λ S f b. f.character b.state) board

-- `due`, if there is one, is the least wait of the board that shows something.
abbrev pub IsDueAt : AnyBoard → Option ℕ → Type 0
IsDueAt board due = HoldsOf (λ S f b. IsDue f.step f.int b.state due) board
