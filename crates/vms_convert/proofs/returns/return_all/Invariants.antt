use Rattle.vms_convert.proofs.{Facade.described, Facade.has, Facade.loads, Facade.recast_each, Facade.numbers_in, LostLaws.Midway}
use Rattle.vms_convert.proofs.returns.return_all.Given as goal

abbrev pub invariant-loop-device : goal.invariant-loop-device
invariant-loop-device l =
    let new = loads l.loader in
    Midway (described l.to) new (recast_each (described l.to) new.devices (numbers_in (has l.loader))) l.device l.routes l.images l.lost
