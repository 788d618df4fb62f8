use Rattle.vms_analyze.proofs.Facade.{take, flat_map, Goes}
use Rattle.vms_analyze.proofs.walk.Walk.each.Given as goal

abbrev pub invariant-loop-item : goal.invariant-loop-item
invariant-loop-item g l = Goes (flat_map g.T.Sought.wants (take l.item-index l.items)) l.initial.self l.self
