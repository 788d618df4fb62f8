use Rattle.vms_values.proofs.Facade.{◌≡◌, drop, read_from}
use Rattle.vms_values.proofs.numbers.read_natural.Given as goal

abbrev pub invariant-loop-digit : goal.invariant-loop-digit
invariant-loop-digit l = read_from l.value (drop l.digit-index l.rest) ≡ read_from 0 l.digits
