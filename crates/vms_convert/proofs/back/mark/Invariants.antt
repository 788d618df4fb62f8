use Rattle.vms_convert.proofs.{Facade.◌≡◌, Facade.described, Facade.device_at, Facade.bare, Settling.MarkedTo}
use Rattle.vms_convert.proofs.back.mark.Given as goal

abbrev pub invariant-loop-sub : goal.invariant-loop-sub
invariant-loop-sub l =
    let d = device_at (described l.set) l.device in
    record {
      rest : l.image ≡ record l.fn.image { came = l.image.came };
      marked : MarkedTo (described l.set) d (bare d l.fn.image.numbers) d.subs l.sub l.image.came;
    }
