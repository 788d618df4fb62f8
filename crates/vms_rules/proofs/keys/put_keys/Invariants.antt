use Rattle.vms_rules.proofs.Facade.{◌≡◌, ◌++◌, map, take, key}
use Rattle.vms_rules.proofs.keys.put_keys.Given as goal

abbrev pub invariant-loop-name : goal.invariant-loop-name
invariant-loop-name l = l.keys.items ≡ l.initial.keys.items ++ map key (take l.name-index l.names)
