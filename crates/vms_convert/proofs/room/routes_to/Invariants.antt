use Rattle.vms_convert.proofs.Facade.{described, AreRoutes}
use Rattle.vms_convert.proofs.room.routes_to.Given as goal

abbrev pub invariant-loop-device : goal.invariant-loop-device
invariant-loop-device l = AreRoutes (described l.to) (described l.newest) l.device l.routes.items
