-- The meaning of saving and restoring a port.
use Rattle.std.specs.Prelude.{ℕ, ℤ, List, Result}
use Rattle.vms_hooks.specs.Numbers.{Numbers}
use Rattle.vms_hooks.specs.declared.fault.HookFault.{HookFault}
use Rattle.dev_base.specs.Hooks.{hook_result}
use Rattle.dev_base.specs.Levels.{MaySave, MayRestore}
use Rattle.dev_serial.specs.Cells.{IsPortCells, cells_of, numbers_of}
use Rattle.dev_serial.specs.Port.{Port}
use Rattle.dev_serial.specs.PortNumbers.{saved}
use Rattle.dev_serial.specs.Rules.{restored}

-- A port may be saved at its own level, under a set at or above it.
abbrev pub CanSave : Numbers → Port → Type 0
CanSave numbers port = MaySave numbers port.level

-- The cells may be restored: they are a port's cells in the newest set.
pub record CanRestore (numbers : Numbers) (cells : List ℤ) : Type 0 where
  pub pass : MayRestore numbers
  pub port_cells : IsPortCells cells

-- The cells of a port.
abbrev pub cells_at : Numbers → Port → List ℤ
cells_at numbers port = cells_of numbers.set (saved numbers.set numbers.moment port)

-- The port of the cells, or the number of the first rule that fails.
abbrev pub restored_cells : Numbers → List ℤ → Result Port ℕ
restored_cells numbers cells = restored numbers.level numbers.moment (numbers_of cells)

-- The same as a hook's result.
abbrev pub hook_restored : Numbers → List ℤ → Result Port HookFault
hook_restored numbers cells = hook_result (restored_cells numbers cells)
