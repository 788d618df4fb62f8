use Rattle.vms_io.proofs.Facade.{rules, ◌-◌}
use Rattle.vms_io.proofs.Ahead.{given_on}
use Rattle.vms_io.proofs.standard.StdSource.give.Goals as goal

pub returns-clause-bytes : goal.returns-clause-bytes
returns-clause-bytes g c = search (rules, given_on)
