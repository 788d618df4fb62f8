use Rattle.vms_convert.proofs.Facade.{◌≡◌, ◌<◌, Some, length, ap, arith, length-map, slice_get_within, slice_get, described, state_of, at_state}
use Rattle.vms_convert.proofs.Facade.{image_at, has}
use Rattle.vms_convert.proofs.{Facade.loads, returns.return_at.Goals.After-index-images-pair, returns.return_at.Goals.Start}
use Rattle.vms_convert.proofs.LostLaws.{recast_for, wanted_is}
use Rattle.vms_convert.proofs.returns.return_at.Goals as goal

inside : (c : Start) → c.args.pair.other < length (loads c.args.pair.loader.now).devices
inside c = slice_get_within (loads c.args.pair.loader.now).devices c.args.pair.other _ c.requires.route.pair.in_new

-- the image of the pair's newer device
there : (c : After-index-images-pair) → slice_get c.images.result.now c.args.pair.other ≡ Some c.index-images-pair.result
there c =
    let k = c.args.pair.other in
    let images = c.images.result.now in
    let inside = slice_get_within (loads c.args.pair.loader.now).devices k _ c.requires.route.pair.in_new in
    let within : k < length images = omega (arith, length-map images state_of, ap length c.images.ensures.images) in
    image_at images k c.index-images-pair.result within c.index-images-pair.is

-- what is kept of it
kept_at : (c : After-index-images-pair) → slice_get (has c.args.pair.loader.now) c.args.pair.other ≡ Some (state_of c.index-images-pair.result)
kept_at c = rw (← c.images.ensures.images) (at_state c.images.result.now c.args.pair.other c.index-images-pair.result (there c))

pub return_image-requires : goal.return_image-requires
return_image-requires c =
    let p = goal.at.return_image-requires c in
    record {
      device = c.requires.device;
      route = c.requires.route;
      of = c.images.ensures.of.each c.args.pair.other c.index-images-pair.result (there p.After-index-images-pair);
      recast = recast_for (described c.args.pair.to.now) (loads c.args.pair.loader.now) c.requires.newest (has c.args.pair.loader.now) c.requires.kept
          c.args.pair.other (inside p.Start) (state_of c.index-images-pair.result) (kept_at p.After-index-images-pair);
      fresh = c.requires.fresh;
    }

pub returns : goal.returns
returns c =
    let new = loads c.args.pair.loader.now in
    let k = c.args.pair.other in
    let image = c.index-images-pair.result in
    let p = goal.at.returns c in
    rw (wanted_is (described c.args.pair.to.now) new c.requires.newest (has c.args.pair.loader.now) c.requires.kept k (inside p.Start) (state_of image)
    (kept_at p.After-index-images-pair)) c.return_image.ensures
