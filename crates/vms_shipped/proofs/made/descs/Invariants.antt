use Rattle.vms_shipped.proofs.Facade.{◌≡◌, map, take, desc_of, desc_in}
use Rattle.vms_shipped.proofs.made.descs.Given as goal

abbrev pub invariant-loop-row : goal.invariant-loop-row
invariant-loop-row l = map desc_of l.descs.items ≡ map desc_in (take l.row-index l.rows)
