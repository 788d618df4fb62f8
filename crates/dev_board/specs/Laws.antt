-- The laws of the board that contracts name.
use Rattle.std.specs.Prelude.{◌≡◌, ℕ, ◌+◌, ◌*◌, ◌<◌, ◌==◌, ◌⊎◌, Bool, true, false, List, [], ◌∷◌, if◌then◌else◌, min}
use Rattle.dev_base.specs.declared.limits.TheConstants.{LAST_MOMENT}
use Rattle.dev_base.specs.Bits.{has}
use Rattle.dev_base.specs.Levels.{IsLevel}
use Rattle.dev_pic.specs.Pair.{int_of, is_port, lines_of}
use Rattle.dev_board.specs.Ports.{target_of}
use Rattle.dev_board.specs.Sound.{IsSound, Alike}
use Rattle.dev_board.specs.State.{State, power_on}
use Rattle.dev_board.specs.Step.{step, after_all, answers_by, after_by}
use Rattle.dev_board.specs.Wires.{is_wire}
use Rattle.dev_board.specs.declared.event.Answer.{Answer}
use Rattle.dev_board.specs.declared.event.Event.{Event}
use Rattle.dev_board.specs.declared.event.Event.TheVariants.{Read, Write, Byte, Wait, Wire, Ack}
use Rattle.dev_board.specs.declared.ports.Target.TheVariants.{Pair, Counter, Control, Register, Nothing}

-- `IsEvent event`: its byte is below 256, and its wire is one.
abbrev pub IsEvent : Event → Type 0
IsEvent (Read port) = Unit {0}
IsEvent (Write port value) = value < 256
IsEvent (Byte value) = value < 256
IsEvent (Wait ns) = Unit {0}
IsEvent (Wire input up) = is_wire input ≡ true
IsEvent Ack = Unit {0}

-- `AreEvents events`: each of the list is an event.
abbrev pub AreEvents : List Event → Type 0
AreEvents [] = Unit {0}
AreEvents (event ∷ events) = IsEvent event × AreEvents events

-- A board at power on is sound, and each event and each list of events keeps a board sound.
pub record SoundStays : Type 0 where
  pub power_on : (level : ℕ) → IsLevel level → IsSound (power_on level)
  pub event : (event : Event) (m : State) → IsEvent event → IsSound m → IsSound (step event m).1
  pub events : (events : List Event) (m : State) → AreEvents events → IsSound m → IsSound (after_all events m)

-- `wire_left wire event was` is the level of the wire after the event, if it was `was` before.
abbrev pub wire_left : ℕ → Event → Bool → Bool
wire_left wire (Read port) was = was
wire_left wire (Write port value) was = was
wire_left wire (Byte value) was = was
wire_left wire (Wait ns) was = was
wire_left wire (Wire input up) was = if input == wire then up else was
wire_left wire Ack was = was

-- After each event a wire is as the last event that named it left it.
pub record WiresStay : Type 0 where
  pub wire : (event : Event) (m : State) (wire : ℕ) → is_wire wire ≡ true → IsEvent event → has (lines_of (step event m).1.pair) wire ≡ wire_left wire event (has (lines_of m.pair) wire)

-- `moment_left event moment` is the moment after the event. Only a wait changes it, by its
-- nanoseconds and not beyond the last moment.
abbrev pub moment_left : Event → ℕ → ℕ
moment_left (Read port) moment = moment
moment_left (Write port value) moment = moment
moment_left (Byte value) moment = moment
moment_left (Wait ns) moment = min (moment + ns) LAST_MOMENT
moment_left (Wire input up) moment = moment
moment_left Ack moment = moment

-- The moment is as `moment_left` says, no event changes the level, and the last moment is that of
-- 4,000,000,000 seconds.
pub record ClockGoesOn : Type 0 where
  pub moment : (event : Event) (m : State) → (step event m).1.moment ≡ moment_left event m.moment
  pub level : (event : Event) (m : State) → (step event m).1.level ≡ m.level
  pub last : LAST_MOMENT ≡ 4000000000 * 1000000000

-- An answer holds the interrupt output after its event.
pub record AnswersTellInt : Type 0 where
  pub int : (event : Event) (m : State) → (step event m).0.int ≡ int_of (step event m).1.pair

-- `AnswersAlike AreAlike first second`: two answers are equal, and what gave them is alike after
-- them.
pub record AnswersAlike {A S : Type 0} (AreAlike : S → S → Type 0) (first second : A × S) : Type 0 where
  pub value : second.0 ≡ first.0
  pub alike : AreAlike first.1 second.1

-- `StaysAlike AreAlike go`: two states that are alike give equal answers to each event and each
-- list of events, and are alike afterwards.
pub record StaysAlike {S : Type 0} (AreAlike : S → S → Type 0) (go : Event → S → Answer × S) : Type 0 where
  pub event : (event : Event) (m n : S) → AreAlike m n → AnswersAlike AreAlike (go event m) (go event n)
  pub answers : (events : List Event) (m n : S) → AreAlike m n → answers_by go events n ≡ answers_by go events m
  pub after : (events : List Event) (m n : S) → AreAlike m n → AreAlike (after_by go events m) (after_by go events n)

-- Boards that are alike stay so.
abbrev pub AlikeStays : Type 0
AlikeStays = StaysAlike Alike step

-- Being alike is an equivalence.
pub record Likeness : Type 0 where
  pub itself : (m : State) → Alike m m
  pub back : (m n : State) → Alike m n → Alike n m
  pub on : (m n o : State) → Alike m n → Alike n o → Alike m o

-- The ports of a board. The pair has its own, the counters have those from 0x40 on and the control
-- port after them, and the serial port's eight registers are those from 0x3f8 on. No other port
-- reaches a device.
pub record PortsAre : Type 0 where
  pub pair : (level port : ℕ) → is_port level port ≡ true → target_of level port ≡ Pair
  pub counter : (level counter : ℕ) → counter < 3 → target_of level (0x40 + counter) ≡ Counter counter
  pub control : (level : ℕ) → target_of level 0x43 ≡ Control
  pub register : (level offset : ℕ) → offset < 8 → target_of level (0x3f8 + offset) ≡ Register offset
  pub nothing : (level port : ℕ) → is_port level port ≡ false → (port < 0x40) ⊎ (0x43 < port)
      → (port < 0x3f8) ⊎ (0x3ff < port) → target_of level port ≡ Nothing
