use Rattle.vms_shipped.proofs.Facade.{◌≡◌, map, take}
use Rattle.vms_shipped.proofs.made.texts.Given as goal

abbrev pub invariant-loop-name : goal.invariant-loop-name
invariant-loop-name l = l.made.items ≡ map (λ n. n.now) (take l.name-index l.names)
