-- The facts that a struct of two closures keeps.
use Rattle.std.specs.Prelude.{ℤ, List, Result}
use Rattle.std.specs.Borrow.{Bor}
use Rattle.arrayvec.specs.ArrayVec.{ArrayVec}
use Rattle.vms_hooks.specs.Numbers.{Numbers}
use Rattle.vms_hooks.specs.declared.fault.HookFault.{HookFault}

-- The step `pre` may be called for each device that may be saved, and returns that device's cells.
pub record Saves {V P : Type 0} (can_save : Numbers → V → Type 0) (saves_as : Numbers → V → List ℤ → Type 0) (may_save : P → Bor Numbers → Bor V → Type 0) (gives_cells : P → Bor Numbers → Bor V → ArrayVec ℤ → Type 0) (pre : P) : Type 0 where
  pub may : (pass : Bor Numbers) (device : Bor V) → can_save pass.now device.now → may_save pre pass device
  pub gives : (pass : Bor Numbers) (device : Bor V) (cells : ArrayVec ℤ) → can_save pass.now device.now → gives_cells pre pass device cells → saves_as pass.now device.now cells.items

-- The step `post` may be called for all cells that may be restored, and returns the device or its
-- first failing rule.
pub record Loads {V L : Type 0} (can_restore : Numbers → List ℤ → Type 0) (restores_to : Numbers → List ℤ → Result V HookFault → Type 0) (may_load : L → Bor Numbers → Bor (ArrayVec ℤ) → Type 0) (answers : L → Bor Numbers → Bor (ArrayVec ℤ) → Result V HookFault → Type 0) (post : L) : Type 0 where
  pub may : (pass : Bor Numbers) (cells : Bor (ArrayVec ℤ)) → can_restore pass.now cells.now.items → may_load post pass cells
  pub gives : (pass : Bor Numbers) (cells : Bor (ArrayVec ℤ)) (outcome : Result V HookFault) → can_restore pass.now cells.now.items → answers post pass cells outcome → restores_to pass.now cells.now.items outcome
