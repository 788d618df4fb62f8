use Rattle.vms_spots.proofs.{Facade.rules, Facade.ap, Facade.length, BufferLaws.same_long}
use Rattle.vms_spots.proofs.buffer.Buffer.copy_from.Goals as goal

pub copy_from_slice-requires : goal.copy_from_slice-requires
copy_from_slice-requires c =
    search (rules, same_long c.self.view_is c.other.view_is c.self.invariant c.other.invariant c.requires, ap length c.deref.ensures.value)
