use Rattle.vms_desc.proofs.Facade.{◌≡◌, map, ℕ, Some, arith, below_more, slice_get, length-map, slice_get_within, device_of, FitsHead}
use Rattle.vms_desc.proofs.EvalLaws.{at_mapped, devices_next}
use Rattle.vms_spec.specs.Sets as sets
use Rattle.vms_desc.proofs.table.device_tables.Goals as goal

pub loop-device-preserved : goal.loop-device-preserved
loop-device-preserved c =
    let i = c.loop-device.device-index in
    let devices = c.args.devices.now in
    record {
      tables =
          rw (c.in_ok-push.ensures.items, c.new.ensures)
          (devices_next c.args.sizes.now devices i c.device-item.result c.loop-device.tables.items _ c.loop-device-test.true c.device-item.is
          c.loop-device.invariant.tables c.in_ok-part_tables.ensures.tables);
      heads = below_more (λ (k : ℕ). (d : sets.Device) → slice_get (map device_of devices) k ≡ Some d → FitsHead d) i c.loop-device.invariant.heads
          (λ d e. rw (at_mapped device_of devices i c.device-item.result d c.device-item.is e) c.in_ok-part_tables.ensures.heads);
    }

pub returns-clause-heads : goal.returns-clause-heads
returns-clause-heads c = record {
  each = λ k d e. c.loop-device.invariant.heads k
      (omega (arith, slice_get_within (map device_of c.args.devices.now) k d e, length-map c.args.devices.now device_of)) d e;
}
