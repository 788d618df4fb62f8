use Rattle.vms_rules.proofs.Facade.{◌≡◌, map, drop, ◌+◌, ◌<◌, ◌^◌, devices_items, in_u32, device_of}
use Rattle.vms_rules.proofs.sets.devices_items.Given as goal

abbrev pub invariant-loop-device : goal.invariant-loop-device
invariant-loop-device l = record {
  small : l.sum < 2 ^ 32;
  whole : in_u32 (l.sum + devices_items l.sizes (map device_of (drop l.device-index l.devices))) ≡ in_u32 (devices_items l.sizes (map device_of l.devices));
}
