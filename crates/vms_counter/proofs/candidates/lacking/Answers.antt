use Rattle.vms_counter.proofs.Facade.{rules}
use Rattle.vms_counter.proofs.FoundLemmas.{lacks_here}
use Rattle.vms_counter.proofs.candidates.lacking.Goals as goal

pub returns-then-not-is_one_of : goal.returns-then-not-is_one_of
returns-then-not-is_one_of c = search (rules, lacks_here)
