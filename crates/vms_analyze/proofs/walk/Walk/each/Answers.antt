use Rattle.vms_analyze.proofs.{Facade.AllPass-from_list_all, Walks.more_of, Walks.goes_then, Walks.one_stops}
use Rattle.vms_analyze.proofs.walk.Walk.each.Goals as goal

pub seek-requires-clause-inside : goal.seek-requires-clause-inside
seek-requires-clause-inside g c = c.loop-item.invariant.inside

pub seek-requires-clause-good : goal.seek-requires-clause-good
seek-requires-clause-good g c =
    cc (
      c.item-item.is,
      AllPass-from_list_all g.T.Sought.is_good c.args.items.now c.requires.good c.loop-item.item-index c.item-item.result c.loop-item-test.true,
    )

pub loop-item-preserved : goal.loop-item-preserved
loop-item-preserved g c =
    rw (more_of g.T.Sought.wants c.args.items.now c.loop-item.item-index c.item-item.result c.loop-item-test.true)
    (goes_then c.loop-item.invariant (rw c.item-item.is at c.in_default.ensures))

pub returns-in-Err : goal.returns-in-Err
returns-in-Err g c =
    one_stops g.T.Sought.wants _ _ c.item-item.result
    _ _ _ _ c.loop-item-test.true c.loop-item.invariant (rw c.item-item.is at c.in-Err.ensures)
