-- What each event keeps, and that devices that are alike give equal answers.
use Rattle.std.proofs.lemmas.Bool.Decides.{nat_tests}
use Rattle.dev_clock.proofs.Facade
use Facade.{refl, NumbersAre, ◌≡◌, ℕ, ◌∙◌, either, moment_left, Answer, Event, Wait, Wire, version_stays, line_of, AnswersTellInt, ClockGoesOn}
use Facade.{ClockState, waited, acted, follows_line, step, CLOCK_INPUT, ◌<◌, Bool, List, [], ◌∷◌, arith, IsLevel, IsUpTo, NEWEST, wires_stay, IsEvent}
use Facade.{AreEvents, State, after_by, chip_on, lines_of, calls_keep_sound, read_of, passed, NEWEST_CLOCK, Rtc, SoundStays, HasDevices, IsSound, power_on}
use Facade.{on_board, clock_read, clock_written, after_all, ap, stays-alike, AnswersAlike, AlikeStays, Alike}
use Rattle.dev_board.proofs.SavedLaws.{alike_stays as board_alike}
use Rattle.dev_board.proofs.SoundLaws.{answers_tell_int as board_tells_int, clock_goes_on as board_goes_on, sound_stays_on as board_stays}
use Rattle.dev_board.specs.{Sound.IsSound as IsSoundBoard, Sound.Alike as AlikeBoards, State.power_on as board_on, Step.step as board_step}
use Rattle.dev_pic.specs.Pair.{power_on as pair_on}
use Rattle.vms_rtc.specs.Chip.{power_on as clock_on}

-- ---- the numbers are the constants' by their definition

pub numbers_are : NumbersAre
numbers_are = record { input = refl; device = refl; rule = refl; lines = refl }

-- ---- no event changes the version, and only a wait changes the moment

-- Devices at a moment and of a version.
record IsAt (moment version : ℕ) (after : Answer × ClockState) : Type 0 where
  moment_is : after.1.board.moment ≡ moment
  version_is : after.1.clock.version ≡ version

module _ (m : ClockState) where
  abbrev Keeps : Event → Answer × ClockState → Type 0
  Keeps event = IsAt (moment_left event m.board.moment) m.clock.version

  acted-clock : (event : Event) → Keeps event (acted event m)
  unfolding acted waited
  acted-clock event = search (arith, nat_tests, version_stays.read, version_stays.write, version_stays.passed, board_goes_on.moment)

follows-clock : (moment version : ℕ) (done : Answer × ClockState) → IsAt moment version done → IsAt moment version (follows_line done)
unfolding follows_line
follows-clock moment version done c =
    record { moment_is = board_goes_on.moment (Wire CLOCK_INPUT (line_of done.1.clock)) done.1.board ∙ c.moment_is; version_is = c.version_is }

step-clock : (event : Event) (m : ClockState) → IsAt (moment_left event m.board.moment) m.clock.version (step event m)
unfolding step
step-clock event m = follows-clock _ _ (acted event m) (acted-clock m event)

pub clock_goes_on : ClockGoesOn
clock_goes_on = record { moment = λ event m. (step-clock event m).moment_is; version = λ event m. (step-clock event m).version_is }

-- ---- the interrupt output

pub answers_tell_int : AnswersTellInt
unfolding step follows_line
answers_tell_int = record { int = λ event m. board_tells_int.int (Wire CLOCK_INPUT (line_of (acted event m).1.clock)) (acted event m).1.board }

-- ---- the devices are sound at power on, and each event keeps them sound: at power on

pub newest-is : IsLevel NEWEST
newest-is = record { first = omega arith; last = omega arith }

pub on-devices : (version : ℕ) → IsUpTo NEWEST_CLOCK version → HasDevices (power_on version)
unfolding power_on board_on
on-devices version v = record { clock = calls_keep_sound.power_on version v; level = refl }

pub on-sound : (version : ℕ) → IsUpTo NEWEST_CLOCK version → IsSound (power_on version)
unfolding power_on board_on pair_on chip_on lines_of clock_on line_of
on-sound version v = record { devices = on-devices version v; board = board_stays.power_on NEWEST newest-is; line = refl }

-- ---- what each device's step keeps

board-has : (event : Event) (m : ClockState) → HasDevices m → HasDevices (on_board event m).1
board-has event m h = record { clock = h.clock; level = board_goes_on.level event m.board ∙ h.level }

read-has : (port : ℕ) (m : ClockState) → HasDevices m → HasDevices (clock_read port m).1
read-has port m h = record { clock = calls_keep_sound.read port m.clock h.clock; level = h.level }

pub written-has : (port value : ℕ) (m : ClockState) → value < 256 → HasDevices m → HasDevices (clock_written port value m).1
written-has port value m v h = record { clock = calls_keep_sound.write port value m.clock v h.clock; level = h.level }

waited-has : (ns : ℕ) (m : ClockState) → HasDevices m → HasDevices (waited ns m).1
unfolding waited
waited-has ns m h = record { clock = calls_keep_sound.passed m.board.moment _ m.clock h.clock; level = board_goes_on.level (Wait ns) m.board ∙ h.level }

-- The same for what a call returned.
pub after-read : (m : ClockState) → HasDevices m → (port value : ℕ) (after : Rtc) → (value, after) ≡ read_of port m.clock
    → HasDevices (record m { clock = after })
after-read m h port value after e = let found = read-has port m h in rw (← e) at found

pub after-event : (m : ClockState) → HasDevices m → (event : Event) (answer : Answer) (after : State) → (answer, after) ≡ board_step event m.board
    → HasDevices (record m { board = after })
after-event m h event answer after e = let found = board-has event m h in rw (← e) at found

pub after-wait : (m : ClockState) → HasDevices m → (ns from to : ℕ) (answer : Answer) (after : State) (clock : Rtc)
    → (answer, after) ≡ board_step (Wait ns) m.board → clock ≡ passed from to m.clock → HasDevices (record { clock = clock; board = after })
after-wait m h ns from to answer after clock e f = record {
  clock = rw f (calls_keep_sound.passed from to m.clock h.clock);
  level = (after-event m h (Wait ns) answer after e).level;
}

-- The same after the board's input has the chip's line.
pub after-line : (m : ClockState) → HasDevices m → (up : Bool) (answer : Answer) (after : State) → up ≡ line_of m.clock
    → (answer, after) ≡ board_step (Wire CLOCK_INPUT up) m.board → IsSoundBoard after → IsSound (record m { board = after })
after-line m h up answer after l e s = record {
  devices = after-event m h (Wire CLOCK_INPUT up) answer after e;
  board = s;
  line = (rw (← e) at (wires_stay.wire (Wire CLOCK_INPUT up) m.board CLOCK_INPUT refl refl)) ∙ l;
}

-- ---- the event itself

-- The devices after an act: those of the board are sound too.
record IsKept (done : Answer × ClockState) : Type 0 where
  devices : HasDevices done.1
  board : IsSoundBoard done.1.board

on-board : (event : Event) (m : ClockState) → IsEvent event → IsSound m → IsKept (on_board event m)
on-board event m e s = record { devices = board-has event m s.devices; board = board_stays.event event m.board e s.board }

acted-kept : (event : Event) (m : ClockState) → IsEvent event → IsSound m → IsKept (acted event m)
unfolding acted waited
acted-kept event m e s = search (arith, either, read-has, on-board, written-has, waited-has)

-- ---- whole events

-- The board's input takes the chip's line.
abbrev taken : Answer × ClockState → Event
taken done = Wire CLOCK_INPUT (line_of done.1.clock)

follows-sound : (done : Answer × ClockState) → HasDevices done.1 → IsSoundBoard (board_step (taken done) done.1.board).1 → IsSound (follows_line done).1
unfolding follows_line
follows-sound done h s = after-line done.1 h (line_of done.1.clock) _ _ refl refl s

step-sound : (event : Event) (m : ClockState) → IsEvent event → IsSound m → IsSound (step event m).1
unfolding step
step-sound event m e s =
    let kept = acted-kept event m e s in
    follows-sound (acted event m) kept.devices (board_stays.event (taken (acted event m)) (acted event m).1.board refl kept.board)

all-sound : (events : List Event) (m : ClockState) → AreEvents events → IsSound m → IsSound (after_all events m)
unfolding after_by
all-sound [] m e s = s
all-sound (event ∷ events) m e s = all-sound events (step event m).1 e.1 (step-sound event m e.0 s)

pub sound_stays_on : SoundStays
sound_stays_on = record { power_on = on-sound; event = step-sound; events = all-sound }

-- ---- devices that are alike give equal answers to each event

-- The others have the same chip, and a board like the first.
module _ (m : ClockState) (board : State) (a : AlikeBoards m.board board) where
  abbrev other : ClockState
  other = record m { board = board }

  waited-alike : (ns : ℕ) → AnswersAlike Alike (waited ns m) (waited ns other)
  unfolding waited
  waited-alike ns =
      let answers = board_alike.event (Wait ns) m.board board a in
      record {
        value = answers.value;
        alike = record { clock = rw (ap (λ (s : State). s.moment) answers.alike.same, ap (λ (s : State). s.moment) a.same); board = answers.alike };
      }

  on_board-alike : (event : Event) → AnswersAlike Alike (on_board event m) (on_board event other)
  on_board-alike event =
      let answers = board_alike.event event m.board board a in
      record { value = answers.value; alike = record { clock = refl; board = answers.alike } }

  acted-alike : (event : Event) → AnswersAlike Alike (acted event m) (acted event other)
  unfolding acted
  acted-alike event = search (arith, nat_tests, on_board-alike, waited-alike)

follows-alike : (first second : Answer × ClockState) → AnswersAlike Alike first second → AnswersAlike Alike (follows_line first) (follows_line second)
unfolding follows_line
follows-alike first second a =
    let answers = board_alike.event (Wire CLOCK_INPUT (line_of first.1.clock)) first.1.board second.1.board a.alike.board in
    record {
      value = rw (a.value, a.alike.clock, answers.value) refl;
      alike = record { clock = a.alike.clock; board = rw (a.alike.clock) (answers.alike) };
    }

step-alike : (event : Event) (m n : ClockState) → Alike m n → AnswersAlike Alike (step event m) (step event n)
unfolding step
step-alike event m n a =
    let same : n ≡ record m { board = n.board } = rw (a.clock) refl in
    rw same (follows-alike (acted event m) (acted event (record m { board = n.board })) (acted-alike m n.board a.board event))

pub alike_stays : AlikeStays
alike_stays = stays-alike Alike step step-alike
