use Rattle.vms_values.proofs.Facade.{rules}
use Rattle.vms_values.proofs.Printers.{part_short}
use Rattle.vms_values.proofs.shown.print_lines.Goals as goal

pub print_part-requires : goal.print_part-requires
print_part-requires g c = search (rules, part_short)
