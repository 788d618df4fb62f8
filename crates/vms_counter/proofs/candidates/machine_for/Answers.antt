use Rattle.vms_counter.proofs.Facade.{arith, ap, length, Set, described, few_machines}
use Rattle.vms_counter.proofs.candidates.machine_for.Goals as goal

pub lacking-requires : goal.lacking-requires
lacking-requires c =
    let parts = ap (λ (s : Set). length s.machines) c.parts.ensures in
    omega (arith, few_machines (described c.args.old.now) c.args.old.now.well_formed, ap length c.as_slice-machines.ensures)
