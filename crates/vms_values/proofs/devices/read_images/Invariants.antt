use Rattle.vms_values.proofs.Facade.{drop, map, read_devices, described, state_of, bad_of}
use Rattle.vms_values.proofs.DeviceLemmas.{Gathered, AreFirstImages}
use Rattle.vms_values.proofs.devices.read_images.Given as goal

abbrev pub invariant-loop-device : goal.invariant-loop-device
invariant-loop-device l =
    let set = described l.set in
    let first = l.initial.reading in
    let now = l.reading in
    record {
      gathered : Gathered set l.device (read_devices set set.devices first.lines.line first.lines.rest.now) (bad_of first.judged) (bad_of now.judged) (map state_of l.images.items)
          (read_devices set (drop l.device set.devices) now.lines.line now.lines.rest.now);
      of : AreFirstImages set l.device l.images.items;
    }
