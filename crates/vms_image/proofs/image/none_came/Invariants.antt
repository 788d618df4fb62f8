use Rattle.vms_image.proofs.Facade.{◌≡◌, replicate, None}
use Rattle.vms_image.proofs.image.none_came.Given as goal

abbrev pub invariant-loop : goal.invariant-loop
invariant-loop l = l.came.items ≡ replicate l.counter None
