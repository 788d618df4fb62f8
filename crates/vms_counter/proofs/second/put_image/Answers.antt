use Rattle.vms_counter.proofs.{Facade.map-set, Facade.described, Facade.state_of, FoundLemmas.put_are}
use Rattle.vms_counter.proofs.second.put_image.Goals as goal

pub returns : goal.returns
returns c = record {
  states = rw (map-set state_of c.in_ok-images.images.items c.args.device c.args.image, c.in_ok-images.ensures.states);
  of = put_are (described c.args.set.now) c.in_ok-images.images.items c.args.device c.args.image c.in_ok-images.ensures.of c.requires.device c.requires.image;
}
