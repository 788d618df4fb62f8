use Rattle.vms_values.proofs.Facade.{◌≡◌, ◌+◌, ◌-◌, ◌*◌, drop, cells_from, readers, read_desc, read_elements, read_fields, field_of, described, desc_at}
use Rattle.vms_values.proofs.Facade.{size_in, table, cell_of, cells_in, capacities_of, item_rank, part_rank, Stays, IsKept, AreKinds, place_of}
use Rattle.vms_values.proofs.taken.+read.Given as goal

abbrev pub decreases-read_elements : goal.decreases-read_elements
decreases-read_elements l = item_rank l.run.field.now.item + 1

abbrev pub decreases-read_field : goal.decreases-read_field
decreases-read_field l = item_rank l.run.field.now.item + 2

abbrev pub decreases-read_item : goal.decreases-read_item
decreases-read_item l = item_rank l.run.field.now.item

abbrev pub decreases-read_under : goal.decreases-read_under
decreases-read_under l = part_rank (described l.set.now) l.spot.part + 3

abbrev pub invariant-read_elements-loop-index : goal.invariant-read_elements-loop-index
invariant-read_elements-loop-index l =
    let set = described l.set in
    let rs = readers set in
    let run = l.run in
    let f = field_of run.field.now in
    let size = size_in set f.item in
    let caps = capacities_of run.most in
    let path = l.initial.path in
    record {
      reads : read_elements rs f caps path run.present l.first size l.index (run.count - l.index) (place_of l.taken)
          ≡ read_elements rs f caps path run.present run.first size 0 run.count (place_of l.initial.taken);
      here : l.first ≡ run.first + l.index * size;
      kept : IsKept l.initial.taken.image l.taken.image;
      path : Stays l.initial.path l.path;
    }

abbrev pub invariant-read_under-loop-field : goal.invariant-read_under-loop-field
invariant-read_under-loop-field l =
    let set = described l.set in
    let d = desc_at set l.spot.part in
    let path = l.initial.path in
    let cell = cell_of set l.spot l.field in
    record {
      reads : read_fields (readers set) d l.spot.version path l.present l.spot.base l.field cell (drop l.field d.fields) (place_of l.taken)
          ≡ read_desc (readers set) d l.spot.version path l.present l.spot.base (place_of l.initial.taken);
      kinds : AreKinds l.taken.image.kinds cell (cells_from (cells_in (table set)) d.fields l.field (drop l.field d.fields));
      kept : IsKept l.initial.taken.image l.taken.image;
      path : Stays l.initial.path l.path;
    }
