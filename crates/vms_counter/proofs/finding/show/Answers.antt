use Rattle.vms_counter.proofs.Facade.{rules}
use Rattle.vms_counter.proofs.finding.show.Goals as goal

pub show_first-requires : goal.show_first-requires
show_first-requires c = search rules
