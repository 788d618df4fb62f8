use Rattle.vms_load.proofs.Facade.{◌≡◌, replicate, false, length}
use Rattle.vms_load.proofs.staged.none_came.Given as goal

abbrev pub invariant-loop-device : goal.invariant-loop-device
invariant-loop-device l = record { same : l.came.items ≡ replicate l._device false; long : length l.came.items ≡ l._device }
