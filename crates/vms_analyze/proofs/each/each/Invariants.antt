use Rattle.vms_analyze.proofs.{Facade.◌≡◌, Facade.length, Facade.map, Facade.items_left, Facade.each, One.before}
use Rattle.vms_analyze.proofs.each.each.Given as goal

abbrev pub invariant-loop-item : goal.invariant-loop-item
invariant-loop-item g l = each g.T.Reads.says (items_left l.fn.items) ≡ before (map g.T.Reads.means l.list.items) (each g.T.Reads.says (items_left l.items))

abbrev pub decreases-loop-item : goal.decreases-loop-item
decreases-loop-item g l = length l.items.rows.now
