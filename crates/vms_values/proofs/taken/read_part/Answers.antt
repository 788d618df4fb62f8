use Rattle.vms_values.proofs.Facade.{rules}
use Rattle.vms_values.proofs.Printers.{part_short}
use Rattle.vms_values.proofs.taken.read_part.Goals as goal

pub read_under-requires : goal.read_under-requires
read_under-requires c = search (rules, part_short)
