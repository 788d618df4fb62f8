use Rattle.vms_selfdesc.proofs.Facade.{◌<◌, ◌∙◌, ◌∷◌, [], length, map, refl, arith, described, state_of, states_long, state_at}
use Rattle.vms_selfdesc.proofs.{Lengths.ready_device, Trees.leaves_all, Trees.leaves_rest, Trees.leaves_none, Trees.devices_next, Trees.devices_end}
use Rattle.vms_selfdesc.proofs.tree.write_devices.Goals as goal

pub loop-device-init : goal.loop-device-init
loop-device-init c = leaves_all c.args.draft.now refl

pub write_device-requires : goal.write_device-requires
write_device-requires c =
    let images = c.args.images.now in
    let lt : c.loop-device.device < length (map state_of images) = omega (arith, states_long images) in
    record {
      device = ready_device _ c.args.set.now.well_formed _ c.requires.ready _ _ lt
          (state_at _ _ c.index-images-device.result c.loop-device-test.true c.index-images-device.is);
      no_path = c.loop-device.invariant.lists.path ∙ c.requires.no_path;
    }

pub loop-device-preserved : goal.loop-device-preserved
loop-device-preserved c =
    let images = c.args.images.now in
    let states = map state_of images in
    let k = c.loop-device.device in
    let image = c.index-images-device.result in
    let lt : k < length states = omega (arith, c.loop-device-test.true, states_long images) in
    leaves_rest (_ ∷ []) c.loop-device.invariant
    (devices_next (described c.args.set.now) states k (state_of image) (omega (arith, lt, c.requires.ready.one_each)) lt
    (state_at images k image c.loop-device-test.true c.index-images-device.is)) c.write_device.ensures

pub returns : goal.returns
returns c =
    let images = c.args.images.now in
    leaves_none (devices_end (described c.args.set.now) (map state_of images) c.loop-device.device
    (omega (arith, states_long images))) c.loop-device.invariant
