-- What saving and restoring mean for the chip.
use Rattle.std.specs.Prelude.{ℕ, ℤ, Bool, ◌&&◌, List, [], ◌∷◌, Result}
use Rattle.vms_hooks.specs.Numbers.{Numbers}
use Rattle.vms_hooks.specs.declared.fault.HookFault.{HookFault}
use Rattle.dev_base.specs.Hooks.{hook_result}
use Rattle.dev_base.specs.Levels.{MaySave, MayRestore}
use Rattle.dev_base.specs.Rules.{judged}
use Rattle.dev_pit.specs.Cells.{channel_at, IsPitCells}
use Rattle.dev_pit.specs.Channel.{counter_from, registers_hold, moment_holds, status_holds, toggles_hold}
use Rattle.dev_pit.specs.declared.channel.Channel.{Channel}
use Rattle.dev_pit.specs.declared.pit.Pit.{Pit}

-- `CanSave numbers pit`: the pass may save a chip of this level.
abbrev pub CanSave : Numbers → Pit → Type 0
CanSave numbers pit = MaySave numbers pit.level

-- `CanRestore numbers cells`: the pass may restore, and the cells are normal cells of the newest
-- set.
pub record CanRestore (numbers : Numbers) (cells : List ℤ) : Type 0 where
  pub pass : MayRestore numbers
  pub normal : IsPitCells cells

-- `three_hold rule cells` tells whether the rule holds for each of the three channels.
abbrev pub three_hold : (Channel → Bool) → List ℤ → Bool
three_hold rule cells = rule (channel_at 0 cells) && (rule (channel_at 1 cells) && rule (channel_at 2 cells))

-- `rules level now cells` is the list of the rules' outcomes for cells of the newest set, in order.
abbrev pub rules : ℕ → ℕ → List ℤ → List Bool
rules level now cells =
    three_hold registers_hold cells ∷ three_hold (moment_holds now) cells ∷ three_hold (status_holds level) cells ∷ three_hold toggles_hold cells ∷ []

-- `pit_of level cells` is the chip that these cells describe.
unfoldable pub pit_of : ℕ → List ℤ → Pit
pit_of level cells = record {
  level = level;
  counters = counter_from (channel_at 0 cells) ∷ counter_from (channel_at 1 cells) ∷ counter_from (channel_at 2 cells) ∷ [];
}

-- `restored_pit level now cells` is the chip, or the number of the first rule that fails for any
-- channel.
abbrev pub restored_pit : ℕ → ℕ → List ℤ → Result Pit ℕ
restored_pit level now cells = judged (rules level now cells) (pit_of level cells)

-- `hook_restored numbers cells` is the same, in the form that a device's hooks return.
abbrev pub hook_restored : Numbers → List ℤ → Result Pit HookFault
hook_restored numbers cells = hook_result (restored_pit numbers.level numbers.moment cells)
