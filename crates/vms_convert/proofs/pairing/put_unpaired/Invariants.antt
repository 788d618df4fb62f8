use Rattle.vms_convert.proofs.Facade.{◌≡◌, ◌++◌, replicate, None}
use Rattle.vms_convert.proofs.pairing.put_unpaired.Given as goal

abbrev pub invariant-loop-cell : goal.invariant-loop-cell
invariant-loop-cell l = l.partners.items ≡ l.initial.partners.items ++ replicate l._cell None
