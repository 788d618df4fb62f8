-- The states that a pair may be in.
use Rattle.std.specs.Prelude.{◌≡◌, ℕ, ◌%◌, ◌<◌, ◌≤◌, true, None}
use Rattle.dev_base.specs.Levels.{IsLevel}
use Rattle.dev_base.specs.Rules.{first_failing}
use Rattle.dev_base.specs.declared.limits.TheConstants.{NEWEST}
use Rattle.dev_pic.specs.Cells.{saved_cells, levels_hold, requests_hold, mode_holds, rules}
use Rattle.dev_pic.specs.Chip.{level_inputs_of}
use Rattle.dev_pic.specs.declared.chip.Chip.{Chip}
use Rattle.dev_pic.specs.declared.chip.Role.{Role}
use Rattle.dev_pic.specs.declared.chip.Role.TheVariants.{Master, Slave}
use Rattle.dev_pic.specs.declared.pair.PicPair.{PicPair}

-- `HasRegisters level role chip`: each register holds what it can hold at any moment; rules 1, 2
-- and 4 hold.
pub record HasRegisters (level : ℕ) (role : Role) (chip : Chip) : Type 0 where
  pub irr : chip.irr < 256
  pub isr : chip.isr < 256
  pub imr : chip.imr < 256
  pub lines : chip.lines < 256
  pub lowest : chip.lowest ≤ 7
  pub base : chip.base < 256
  pub vectors : chip.base % 8 ≡ 0
  pub elcr : chip.elcr < 256
  pub levels : levels_hold level role chip.elcr ≡ true
  pub mode : mode_holds level chip.ltim ≡ true

-- `IsSoundChip level role chip`: rule 3 holds too, so the requests of level inputs are their lines.
-- An acknowledge of the cascade, a write to an edge/level register and ICW1 may break it. It holds
-- again after the lines are updated.
pub record IsSoundChip (level : ℕ) (role : Role) (chip : Chip) : Type 0 where
  pub registers : HasRegisters level role chip
  pub requests : requests_hold chip.irr chip.lines (level_inputs_of chip) ≡ true

-- `MeetsRules level role chip`: no rule fails for the chip's cells in the newest set.
abbrev pub MeetsRules : ℕ → Role → Chip → Type 0
MeetsRules level role chip = first_failing (rules level role (saved_cells NEWEST chip)) ≡ None

-- `PairHasRegisters pair`: the pair's level is one that boards have, and both chips have their
-- registers.
pub record PairHasRegisters (pair : PicPair) : Type 0 where
  pub level : IsLevel pair.level
  pub master : HasRegisters pair.level Master pair.master
  pub slave : HasRegisters pair.level Slave pair.slave

-- `IsSoundPair pair`: both chips are sound.
pub record IsSoundPair (pair : PicPair) : Type 0 where
  pub level : IsLevel pair.level
  pub master : IsSoundChip pair.level Master pair.master
  pub slave : IsSoundChip pair.level Slave pair.slave
