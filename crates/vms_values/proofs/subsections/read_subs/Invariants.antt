use Rattle.vms_values.proofs.Facade.{◌≡◌, drop, length, own_cells, read_subs, first_cell, described, device_at, place_of, IsAlike}
use Rattle.vms_spec.specs.declared.Part.TheVariants as parts
use Rattle.vms_values.proofs.DeviceLemmas.{Follows}
use Rattle.vms_values.proofs.subsections.read_subs.Given as goal

abbrev pub invariant-loop-sub : goal.invariant-loop-sub
invariant-loop-sub l =
    let set = described l.set in
    let d = device_at set l.device in
    record {
      follows : Follows (read_subs set (own_cells set d) d.subs (place_of l.initial.taken)) l.sub l.taken.image.came l.lines.items
          (read_subs set (first_cell set (parts.Sub l.device l.sub)) (drop l.sub d.subs) (place_of l.taken));
      count : length l.lines.items ≡ l.sub;
      alike : IsAlike l.initial.taken.image l.taken.image;
    }
