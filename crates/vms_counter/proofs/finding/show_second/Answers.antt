use Rattle.vms_counter.proofs.Facade.{rules}
use Rattle.vms_counter.proofs.FoundLemmas.{none_found}
use Rattle.vms_counter.proofs.finding.show_second.Goals as goal

pub returns-in-None : goal.returns-in-None
returns-in-None c = search (rules, none_found)
