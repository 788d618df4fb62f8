use Rattle.vms_convert.proofs.Facade.{◌<◌, length, arith, slice_get-get_or, described, loads}
use Rattle.vms_convert.proofs.{LostLaws.midway_first, LostLaws.midway_last, LostLaws.midway_next, returns.return_all.Goals.After-index-images-device}
use Rattle.vms_convert.proofs.returns.return_all.Goals as goal

pub loop-device-init : goal.loop-device-init
loop-device-init c = midway_first (described c.args.to.now) (loads c.args.loader.now) _ c.args.routes.now c.args.images.now c.requires.routes c.requires.fresh

inside : (c : After-index-images-device) → c.loop-device.device < length c.loop-device.routes
inside c = omega arith

pub return_at-cell-requires : goal.return_at-cell-requires
return_at-cell-requires c =
    let inside = inside (goal.at.return_at-cell-requires c).After-index-images-device in
    record {
      newest = c.requires.newest;
      kept = c.requires.kept;
      device = omega arith;
      route = c.loop-device.invariant.routes_are _ _ (omega arith) (slice_get-get_or c.loop-device.routes _ c.index-routes-device.result inside);
      fresh = c.loop-device.invariant.fresh _ _ (omega arith) (slice_get-get_or c.loop-device.images _ c.index-images-device.result (omega arith));
    }

pub loop-device-preserved : goal.loop-device-preserved
loop-device-preserved c =
    let n = c.loop-device.device in
    let m = c.loop-device.invariant in
    let inside = inside (goal.at.loop-device-preserved c).After-index-images-device in
    midway_next (described c.args.to.now) (loads c.args.loader.now) _ n _ c.loop-device.routes c.loop-device.images c.loop-device.lost c.earlier-lost.result
    c.return_at-cell.new.route c.return_at-cell.new.image c.return_at-cell.result m (omega arith)
    (m.routes_are n _ (omega arith)
    (slice_get-get_or c.loop-device.routes n c.index-routes-device.result inside)).pair c.return_at-cell.ensures c.earlier-lost.ensures

pub returns : goal.returns
returns c =
    let m = c.loop-device.invariant in
    midway_last (described c.args.to.now) (loads c.args.loader.now) _ c.loop-device.device c.loop-device.routes c.loop-device.images c.loop-device.lost m
    (omega arith)
