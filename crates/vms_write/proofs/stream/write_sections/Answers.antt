use Rattle.vms_write.proofs.Facade.{◌≡◌, ◌+◌, ◌<◌, ◌++◌, length, drop, map, arith, refl, Some, slice_get, slice_get-get_or, described}
use Rattle.vms_write.proofs.Facade.{device_at, state_of, states_long, state_at, at_state, image_at, leaves_all, leaves_rest, leaves_stop, written_section}
use Rattle.vms_write.proofs.{stream.write_sections.Given.Over, stream.write_sections.Goals.After-write_section-arg-1, Facade.written_sections}
use Rattle.vms_write.proofs.Sections.{failed, sections_at}
use Rattle.vms_write.proofs.stream.write_sections.Goals as goal

pub loop-device-init : goal.loop-device-init
loop-device-init g c = leaves_all _ _ _ refl

-- the section of the next device, and those after it
next_section : (g : Over) (c : goal.After-write_section-arg-1 g) → (let set = described c.args.set.now in let i = c.loop-device.device in let images = map state_of c.args.images.now in
    written_sections set i (drop i set.devices) (drop i images) ≡ written_section set (device_at set i) (state_of c.index-images-device.result) i ++ written_sections set (i + 1) (drop (i + 1) set.devices) (drop (i + 1) images))
next_section g c =
    let set = described c.args.set.now in
    let i = c.loop-device.device in
    let image = c.index-images-device.result in
    let lt : i < length (map state_of c.args.images.now) = omega (arith, states_long c.args.images.now) in
    sections_at set i (map state_of c.args.images.now) (state_of image) (omega arith) lt (state_at c.args.images.now i image c.loop-device-test.true c.index-images-device.is)

pub loop-device-preserved : goal.loop-device-preserved
loop-device-preserved g c =
    leaves_rest _ (next_section g (goal.at.loop-device-preserved g c).After-write_section-arg-1) c.loop-device.invariant c.in_ok-write_section.ensures

pub write_section-requires-clause-kinds : goal.write_section-requires-clause-kinds
write_section-requires-clause-kinds g c =
    (c.requires.of.each _ _ (image_at c.args.images.now _ _ c.loop-device-test.true c.index-images-device.is)).kinds

pub write_section-requires-clause-ready : goal.write_section-requires-clause-ready
write_section-requires-clause-ready g c =
    let set = described c.args.set.now in
    let i = c.loop-device.device in
    let image = c.index-images-device.result in
    let here : slice_get c.args.images.now i ≡ Some image = image_at c.args.images.now i image c.loop-device-test.true c.index-images-device.is in
    c.requires.ready.ready i (device_at set i) (state_of image) (slice_get-get_or set.devices i _ (omega arith)) (at_state c.args.images.now i image here)

pub returns-in_err-write_section : goal.returns-in_err-write_section
returns-in_err-write_section g c =
    let next = next_section g (goal.at.returns-in_err-write_section g c).After-write_section-arg-1 in
    failed _ _ c.from_residual.ensures.1 (leaves_stop _ next c.loop-device.invariant c.in_err-write_section.ensures)
