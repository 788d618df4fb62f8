use Rattle.vms_script.proofs.Facade.{arith}
use Rattle.vms_script.proofs.{NumberLemmas.natural_stops, NumberLemmas.natural_ends}
use Rattle.vms_script.proofs.number.natural_of.Goals as goal

pub returns-in_err-value : goal.returns-in_err-value
returns-in_err-value c = grind (arith, natural_stops)

pub returns : goal.returns
returns c = natural_ends _ _ _ c.loop-digit-test.false c.loop-digit.invariant.small c.loop-digit.invariant.value
