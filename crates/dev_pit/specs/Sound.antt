-- The states that a chip may be in.
use Rattle.std.specs.Prelude.{◌≡◌, ℕ, ◌<◌, ◌≤◌, ◌^◌, true, length, Option, Some, None}
use Rattle.dev_base.specs.Levels.{IsLevel}
use Rattle.dev_base.specs.declared.limits.TheConstants.{LAST_MOMENT}
use Rattle.dev_pit.specs.Channel.{channel_of, registers_hold, moment_holds, status_holds, toggles_hold}
use Rattle.dev_pit.specs.Pit.{counter_of}
use Rattle.dev_pit.specs.declared.counter.Counter.{Counter}
use Rattle.dev_pit.specs.declared.pit.Pit.{Pit}

-- `HeldBelow limit held`: the number that is held, if there is one, is below the limit.
abbrev pub HeldBelow : ℕ → Option ℕ → Type 0
HeldBelow limit None = Unit {0}
HeldBelow limit (Some held) = held < limit

-- `HasWidths counter`: each register holds a number of its width.
pub record HasWidths (counter : Counter) : Type 0 where
  pub count : counter.count < 2 ^ 16
  pub loaded_at : HeldBelow (2 ^ 64) counter.loaded_at
  pub held_low : HeldBelow (2 ^ 8) counter.held_low
  pub latch : HeldBelow (2 ^ 16) counter.latch
  pub status : HeldBelow (2 ^ 8) counter.status

-- `IsSoundCounter level now counter`: every rule holds for the counter's fields.
pub record IsSoundCounter (level now : ℕ) (counter : Counter) : Type 0 where
  pub widths : HasWidths counter
  pub registers : registers_hold (channel_of counter) ≡ true
  pub moment : moment_holds now (channel_of counter) ≡ true
  pub status : status_holds level (channel_of counter) ≡ true
  pub toggles : toggles_hold (channel_of counter) ≡ true

-- `IsSoundPit now pit`: the chip has a level and a moment that boards have, and its three counters
-- are sound.
pub record IsSoundPit (now : ℕ) (pit : Pit) : Type 0 where
  pub level : IsLevel pit.level
  pub moment : now ≤ LAST_MOMENT
  pub count : length pit.counters ≡ 3
  pub counters : (k : ℕ) → k < 3 → IsSoundCounter pit.level now (counter_of k pit)
