use Rattle.vms_convert.proofs.Facade.{◌≡◌, described, ArePut}
use Rattle.vms_convert.proofs.back.put_defaults.Given as goal

abbrev pub invariant-loop-cell : goal.invariant-loop-cell
invariant-loop-cell l = record {
  rest : l.image ≡ record l.fn.image { numbers = l.image.numbers };
  put : ArePut (described l.set) l.device l.first l.cell l.fn.image.numbers l.image.numbers;
}
