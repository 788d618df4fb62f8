-- The devices of a board of either kind, and what waits show of them.
use Rattle.std.specs.Prelude.{ℕ, ◌-◌, Bool, Option, None, ◌≡◌}
use Rattle.dev_board.specs.State.{State}
use Rattle.dev_board.specs.Step.{step}
use Rattle.dev_clock.specs.State.{ClockState}
use Rattle.dev_clock.specs.Step.{step as clock_step}
use Rattle.dev_pic.specs.Pair.{int_of}
use Rattle.dev_pit.specs.Pit.{counter_of}
use Rattle.dev_pit.specs.declared.counter.Counter.{Counter}
use Rattle.dev_serial.specs.Line.{character_time}
use Rattle.vms_rtc.specs.Ends.{IsNextEnd, period_in}
use Rattle.dev_due.specs.Due.{shows}
use Rattle.dev_due.specs.declared.boards.Board.{Board}
use Rattle.dev_due.specs.declared.boards.Board.TheVariants.{Isa, Clock}

abbrev pub board_int : State → Bool
board_int m = int_of m.pair

abbrev pub clock_int : ClockState → Bool
clock_int m = int_of m.board.pair

-- the devices without a clock chip
abbrev pub devices_of : Board → State
devices_of (Isa devices) = devices.now
devices_of (Clock devices) = devices.now.board

-- counter 0 of the timer chip, and the time of a character on the serial line
abbrev pub timer_of : Board → Counter
timer_of board = counter_of 0 (devices_of board).pit

abbrev pub character_of : Board → ℕ
character_of board = character_time (devices_of board).serial.divisor (devices_of board).serial.lcr

-- a wait shows something
abbrev pub shows_of : Board → ℕ → Bool
shows_of (Isa devices) ns = shows step board_int devices.now ns
shows_of (Clock devices) ns = shows clock_step clock_int devices.now ns

-- a wait up to a moment shows something
abbrev pub shows_at : Board → ℕ → Bool
shows_at board at = shows_of board (at - (devices_of board).moment)

-- when a period of the clock chip ends next, if there is such a chip and it counts
abbrev pub IsEnd : Board → Option ℕ → Type 0
IsEnd (Isa devices) end = end ≡ None
IsEnd (Clock devices) end =
    IsNextEnd (period_in devices.now.clock) devices.now.board.moment end
