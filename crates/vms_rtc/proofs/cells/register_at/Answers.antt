use Rattle.vms_rtc.proofs.{Facade.◌+◌, Facade.arith, SavedLaws.is_byte}
use Rattle.vms_rtc.proofs.cells.register_at.Goals as goal

pub byte_at-requires-clause-in_range : goal.byte_at-requires-clause-in_range
byte_at-requires-clause-in_range c = is_byte c.args.cells.now.items (1 + c.args.number) c.requires.of_kinds (omega arith)
