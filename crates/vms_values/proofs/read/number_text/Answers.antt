use Rattle.vms_values.proofs.Facade.{arith}
use Rattle.vms_values.proofs.{Facade.codes, ReadLemmas.strips_then, ReadLemmas.strips_not, ReadLemmas.strip_is}
use Rattle.vms_values.proofs.read.number_text.Goals as goal

pub returns-in-Some : goal.returns-in-Some
returns-in-Some c = grind (arith, strips_then, strip_is)

pub returns-in-None : goal.returns-in-None
returns-in-None c = rw c.text.ensures at (strips_not c.text.result.now (codes " = ") c.args.line.now c.in-None.ensures.cases)
