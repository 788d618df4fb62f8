-- The laws of a clock board's devices that contracts name.
use Rattle.std.specs.Prelude.{◌≡◌, ℕ, List}
use Rattle.dev_base.specs.Levels.{IsUpTo}
use Rattle.dev_board.specs.Laws.{IsEvent, AreEvents, moment_left, StaysAlike}
use Rattle.dev_board.specs.declared.event.Event.{Event}
use Rattle.dev_pic.specs.Pair.{int_of}
use Rattle.vms_rtc.specs.declared.limits.TheConstants.{NEWEST_CLOCK}
use Rattle.dev_clock.specs.Sound.{IsSound, Alike}
use Rattle.dev_clock.specs.State.{ClockState, power_on}
use Rattle.dev_clock.specs.Step.{step, after_all}

-- The devices are sound at power on, and each event and each list of events keeps them sound.
pub record SoundStays : Type 0 where
  pub power_on : (version : ℕ) → IsUpTo NEWEST_CLOCK version → IsSound (power_on version)
  pub event : (event : Event) (m : ClockState) → IsEvent event → IsSound m → IsSound (step event m).1
  pub events : (events : List Event) (m : ClockState) → AreEvents events → IsSound m → IsSound (after_all events m)

-- The moment changes as a board's does, and no event changes the version.
pub record ClockGoesOn : Type 0 where
  pub moment : (event : Event) (m : ClockState) → (step event m).1.board.moment ≡ moment_left event m.board.moment
  pub version : (event : Event) (m : ClockState) → (step event m).1.clock.version ≡ m.clock.version

-- An answer holds the interrupt output after its event.
pub record AnswersTellInt : Type 0 where
  pub int : (event : Event) (m : ClockState) → (step event m).0.int ≡ int_of (step event m).1.board.pair

-- Devices that are alike give equal answers to each event and each list of events, and are alike
-- afterwards.
abbrev pub AlikeStays : Type 0
AlikeStays = StaysAlike Alike step
