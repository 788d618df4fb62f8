use Rattle.vms_values.proofs.Facade.{drop, map, devices_lines, described, state_of, AreOf, outlet, Leaves}
use Rattle.vms_values.proofs.print.print_devices.Given as goal

abbrev pub invariant-loop-device : goal.invariant-loop-device
invariant-loop-device g l =
    let set = described l.set in
    record {
      owes : Leaves (outlet g.K.Sink l.initial.sink) (outlet g.K.Sink l.sink) (devices_lines set set.devices (map state_of l.images))
          (devices_lines set (drop l.device set.devices) (drop l.device (map state_of l.images)));
      of : AreOf set (drop l.device set.devices) (drop l.device (map state_of l.images));
    }
