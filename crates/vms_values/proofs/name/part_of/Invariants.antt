use Rattle.vms_values.proofs.Facade.{◌≡◌, ◌<◌, [], length, get_or, described, device_at, cell_name}
use Rattle.vms_values.proofs.Naming.{names_of_subs}
use Rattle.vms_values.proofs.name.part_of.Given as goal

abbrev pub invariant-loop-sub : goal.invariant-loop-sub
invariant-loop-sub l =
    let set = described l.set in
    record {
      same : cell_name set (device_at set l.device) l.fn.cell ≡ get_or (names_of_subs set l.device l.sub) l.left [];
      room : l.left < length (names_of_subs set l.device l.sub);
    }
