use Rattle.vms_rules.proofs.Facade.{◌≡◌, drop, key}
use Rattle.vms_rules.proofs.names.key.Given as goal

abbrev pub invariant-loop-place : goal.invariant-loop-place
invariant-loop-place l = l.key ≡ key (drop l.place l.name)
