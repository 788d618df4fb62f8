-- The outcome of a restore in the form that a device's hooks return.
use Rattle.std.specs.Prelude.{ℕ, Result, Ok, Err}
use Rattle.vms_hooks.specs.declared.fault.HookFault.{HookFault}

-- `hook_result outcome` is the device, or the number of the rule as a fault of the hooks.
unfoldable pub hook_result : {D : Type 0} → Result D ℕ → Result D HookFault
hook_result (Ok device) = Ok device
hook_result (Err rule) = Err (record { rule = rule })
