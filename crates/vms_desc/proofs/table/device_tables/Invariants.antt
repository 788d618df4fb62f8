use Rattle.vms_desc.proofs.Facade.{◌≡◌, ℕ, ◌<◌, map, take, Some, slice_get, device_of, FitsHead, AreDeviceTables}
use Rattle.vms_spec.specs.Sets as sets
use Rattle.vms_desc.proofs.table.device_tables.Given as goal

abbrev pub invariant-loop-device : goal.invariant-loop-device
invariant-loop-device l = record {
  tables : AreDeviceTables l.sizes (map device_of (take l.device-index l.devices)) l.tables.items;
  heads : (k : ℕ) → k < l.device-index → (d : sets.Device) → slice_get (map device_of l.devices) k ≡ Some d → FitsHead d;
}
