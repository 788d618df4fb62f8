use Rattle.vms_spots.proofs.LayoutLaws.{LaidOut}
use Rattle.vms_spots.proofs.layout.lay_out.Given as goal

abbrev pub invariant-loop-kind : goal.invariant-loop-kind
invariant-loop-kind l = LaidOut l.kinds l.spots.items l.end l.kind-index
