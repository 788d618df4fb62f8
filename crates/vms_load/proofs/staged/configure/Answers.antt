use Rattle.vms_load.proofs.Facade.{rules, arith, ap, length, described, few_machines}
use Rattle.vms_load.proofs.staged.configure.Goals as goal

pub machine_of-requires : goal.machine_of-requires
machine_of-requires c = record {
  few = omega (arith, few_machines (described c.args.set.now) c.args.set.now.well_formed, ap length c.as_slice.ensures, ap (λ s. length s.machines) c.parts.ensures);
  machine = search rules;
}
