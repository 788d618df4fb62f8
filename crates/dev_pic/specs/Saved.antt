-- What saving and restoring mean for the pair.
use Rattle.std.specs.Prelude.{ℕ, ℤ, ◌+◌, ◌-◌, ◌==◌, nat_le, if◌then◌else◌, List, ◌++◌, length, Result, Ok, Err, take, drop}
use Rattle.vms_hooks.specs.Numbers.{Numbers}
use Rattle.vms_hooks.specs.declared.fault.HookFault.{HookFault}
use Rattle.dev_base.specs.Hooks.{hook_result}
use Rattle.dev_base.specs.Levels.{MaySave, MayRestore}
use Rattle.dev_pic.specs.Cells.{kinds, cell_count, saved_cells, carried, IsChipCells, restored}
use Rattle.dev_pic.specs.declared.chip.Chip.{Chip}
use Rattle.dev_pic.specs.declared.chip.Role.TheVariants.{Master, Slave}
use Rattle.dev_pic.specs.declared.fault.ChipFault.{ChipFault}
use Rattle.dev_pic.specs.declared.pair.PicPair.{PicPair}

-- `chip_at chip pair` is the chip with this number: 0 is the master.
abbrev pub chip_at : ℕ → PicPair → Chip
chip_at chip pair = if chip == 0 then pair.master else pair.slave

-- `CanSave numbers pair`: the pass may save a pair of this level.
abbrev pub CanSave : Numbers → PicPair → Type 0
CanSave numbers pair = MaySave numbers pair.level

-- `pair_cells set pair` is the list of the pair's cells: the master's, followed by the slave's.
abbrev pub pair_cells : ℕ → PicPair → List ℤ
pair_cells set pair = saved_cells set pair.master ++ saved_cells set pair.slave

-- `pair_carried set cells` is the list of the cells of the newest set that the pair's cells are
-- carried to, each chip's by itself.
abbrev pub pair_carried : ℕ → List ℤ → List ℤ
pair_carried set cells =
    carried set (take (length (kinds set)) cells) ++ carried set (drop (length (kinds set)) cells)

-- `CanRestore numbers cells`: the pass may restore, and the cells are those of two chips in the
-- newest set.
pub record CanRestore (numbers : Numbers) (cells : List ℤ) : Type 0 where
  pub pass : MayRestore numbers
  pub master : IsChipCells (take cell_count cells)
  pub slave : IsChipCells (drop cell_count cells)

-- `pair_of level master slave` is the pair of two restored chips, or the first fault, the master's
-- before the slave's.
unfoldable pub pair_of : ℕ → Result Chip ℕ → Result Chip ℕ → Result PicPair ChipFault
pair_of level (Err rule) slave = Err (record { chip = 0; rule = rule })
pair_of level (Ok master) (Err rule) = Err (record { chip = 1; rule = rule })
pair_of level (Ok master) (Ok slave) = Ok (record { level = level; master = master; slave = slave })

-- `restored_pair level master slave` is the pair that the cells of two chips describe, or the first
-- rule that fails.
abbrev pub restored_pair : ℕ → List ℤ → List ℤ → Result PicPair ChipFault
restored_pair level master slave =
    pair_of level (restored level Master master) (restored level Slave slave)

-- `hook_rule fault` is the number of the fault's rule among those of both chips; a rule of the
-- slave has 10 added.
abbrev pub hook_rule : ChipFault → ℕ
hook_rule fault = if fault.chip == 0 then fault.rule else 10 + fault.rule

-- `fault_of rule` is the fault that the hooks number so.
abbrev pub fault_of : ℕ → ChipFault
fault_of rule = if nat_le rule 10 then record { chip = 0; rule = rule } else record { chip = 1; rule = rule - 10 }

-- `by_number outcome` is the outcome with its fault as the hooks' number.
unfoldable pub by_number : Result PicPair ChipFault → Result PicPair ℕ
by_number (Ok pair) = Ok pair
by_number (Err fault) = Err (hook_rule fault)

-- `hook_restored numbers cells` is the pair that the cells describe, or the first rule that fails,
-- in the form that a device's hooks return.
abbrev pub hook_restored : Numbers → List ℤ → Result PicPair HookFault
hook_restored numbers cells =
    hook_result (by_number (restored_pair numbers.level (take cell_count cells) (drop cell_count cells)))
