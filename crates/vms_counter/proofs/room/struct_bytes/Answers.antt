use Rattle.vms_counter.proofs.Facade.{rules}
use Rattle.vms_counter.proofs.{Facade.first, RoomLaws.structs_more}
use Rattle.vms_counter.proofs.room.struct_bytes.Goals as goal

pub loop-desc-init : goal.loop-desc-init
unfolding first
loop-desc-init c = c.in_ok-bytes.ensures.items

pub loop-desc-preserved : goal.loop-desc-preserved
loop-desc-preserved c = search (rules, structs_more)
