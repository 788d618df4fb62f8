use Rattle.vms_desc.proofs.Facade.{◌≡◌, own_cells, sub_place, described}
use Rattle.vms_desc.specs.Described.{device_at}
use Rattle.vms_desc.proofs.set.DescSet.first_cell_of_sub.Given as goal

abbrev pub invariant-loop-earlier : goal.invariant-loop-earlier
invariant-loop-earlier l =
    l.cell ≡ sub_place (described l.self) (own_cells (described l.self) (device_at (described l.self) l.device))
    (device_at (described l.self) l.device).subs l.earlier
