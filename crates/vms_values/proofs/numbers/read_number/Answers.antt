use Rattle.vms_values.proofs.{Facade.rules, Facade.sym, Facade.◌∙◌, ReadLemmas.spelled_is}
use Rattle.vms_values.proofs.numbers.read_number.Goals as goal

pub returns-in-Some-read_natural-2 : goal.returns-in-Some-read_natural-2
returns-in-Some-read_natural-2 c =
    rw (spelled_is c.args.text.now c.in-Some-read_natural-2.value (sym c.in-Some-read_natural-2.is ∙ c.read_natural-in-None.ensures)) (search rules)
