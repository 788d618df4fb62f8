use Rattle.vms_io.proofs.Facade.{rules, drop_all}
use Rattle.vms_io.proofs.Filling.{left_split}
use Rattle.vms_io.proofs.memory.source.MemSourceSource.read.Goals as goal

pub returns-clause-bytes : goal.returns-clause-bytes
returns-clause-bytes c = search (rules, left_split, drop_all)
