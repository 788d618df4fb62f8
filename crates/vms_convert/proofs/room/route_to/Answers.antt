use Rattle.vms_convert.proofs.Facade.{described, slice_get_within}
use Rattle.vms_convert.proofs.room.route_to.Goals as goal

pub new-requires : goal.new-requires
new-requires c = slice_get_within (described c.args.newest.now).devices c.counterpart-other.result _ c.counterpart-other.ensures.in_new

pub recast_room-requires : goal.recast_room-requires
recast_room-requires c = slice_get_within (described c.args.newest.now).devices c.counterpart-other.result _ c.counterpart-other.ensures.in_new
