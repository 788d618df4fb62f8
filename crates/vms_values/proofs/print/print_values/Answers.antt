use Rattle.vms_values.proofs.Facade.{ap, puts_as, wrote_behind, machine_line, described, machine_of}
use Rattle.vms_values.proofs.Printers.{wrote_mapped}
use Rattle.vms_values.proofs.print.print_values.Goals as goal

pub returns : goal.returns
returns g c =
    let set = described c.args.set.now in
    let first = rw c.in_ok-map_err.was at (wrote_mapped _ _ _ c.print_machine.result c.map_err.result c.map_err.ensures.variant c.print_machine.ensures) in
    wrote_mapped _ _ _ _ _ c.map_err-2.ensures.variant
    (wrote_behind _ _ _ (puts_as (ap (λ s. machine_line (machine_of s c.args.machine)) c.parts.ensures) first) c.print_devices.ensures)
