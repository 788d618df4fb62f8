use Rattle.vms_convert.proofs.{Facade.◌≡◌, Facade.described, Facade.device_at, Settling.SettledTo}
use Rattle.vms_convert.proofs.back.settle.Given as goal

abbrev pub invariant-loop-sub : goal.invariant-loop-sub
invariant-loop-sub l = record {
  rest : l.image ≡ record l.fn.image { numbers = l.image.numbers };
  settled : SettledTo (described l.set) (device_at (described l.set) l.device) l.sub l.fn.image.numbers l.image.numbers;
}
