use Rattle.vms_convert.proofs.{Facade.described, LostLaws.fresh_of}
use Rattle.vms_convert.proofs.room.room_for.Goals as goal

pub returns : goal.returns
returns c = record {
  images = let images = c.in_ok-default_images in fresh_of (described c.args.to.now) images.field-0.items images.ensures.states images.ensures.of;
  routes = c.in_ok-routes_to.ensures;
}
