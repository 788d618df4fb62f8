use Rattle.vms_write.proofs.Facade.{◌≡◌, length, map, described, device_at, state_of, IsReady, IsImageOf}
use Rattle.vms_write.proofs.{Sections.SoFar}
use Rattle.vms_write.proofs.readiness.are_ready.Given as goal

abbrev pub invariant-loop-device : goal.invariant-loop-device
invariant-loop-device l =
    let set = described l.set in
    record {
      long : length l.images ≡ length set.devices;
      ready : SoFar (λ k. IsReady set (device_at set k)) (map state_of l.images) l.device;
      of : SoFar (IsImageOf set) l.images l.device;
    }
