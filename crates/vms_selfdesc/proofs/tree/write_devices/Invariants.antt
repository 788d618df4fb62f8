use Rattle.vms_selfdesc.proofs.{Facade.drop, Facade.map, Facade.described, Facade.state_of, Facade.device_trees, Trees.Leaves}
use Rattle.vms_selfdesc.proofs.tree.write_devices.Given as goal

abbrev pub invariant-loop-device : goal.invariant-loop-device
invariant-loop-device l =
    let set = described l.set in
    let states = map state_of l.images in
    Leaves (λ d. d) l.initial.draft l.draft (device_trees set set.devices states) (device_trees set (drop l.device set.devices) (drop l.device states))
