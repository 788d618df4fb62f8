use Rattle.vms_spots.proofs.{Facade.arith, Facade.refl, SpotLaws.are_apart, LayoutLaws.goes, LayoutLaws.ends}
use Rattle.vms_spots.proofs.layout.lay_out.Goals as goal

pub loop-kind-init : goal.loop-kind-init
loop-kind-init c = rw c.in_ok-spots.ensures.items (record { small = omega arith; rest = refl })

pub loop-kind-preserved : goal.loop-kind-preserved
loop-kind-preserved c = goes _ c.loop-kind-test.true c.behind-spot.ensures c.in_ok-push.ensures.items c.end-end.ensures c.loop-kind.invariant

pub returns : goal.returns
returns c =
    let laid = ends c.loop-kind-test.false c.loop-kind.invariant in
    record { spots = laid; apart = rw laid (are_apart c.args.kinds.now) }
