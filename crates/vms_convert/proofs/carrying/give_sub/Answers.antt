use Rattle.vms_convert.proofs.Converts.{sub_spot}
use Rattle.vms_convert.proofs.carrying.give_sub.Goals as goal

pub give_part-requires-clause-part : goal.give_part-requires-clause-part
give_part-requires-clause-part c =
    let h = sub_spot _ c.args.device c.requires.device c.args.set.now.well_formed _ c.requires.of.cells c.args.sub c.requires.sub in
    record { part = h.part; few = h.few; room = rw c.first_cell.ensures h.room }
