use Rattle.vms_convert.proofs.Facade.{◌≡◌, ◌+◌, ◌*◌, ◌++◌, described, reach, HasFew, HasRoom, IsStart, elements_left, partners_left}
use Rattle.vms_convert.proofs.PartnerLaws.{depth}
use Rattle.vms_convert.proofs.pairing.+pairing.Given as goal

abbrev pub decreases-pair_descs : goal.decreases-pair_descs
decreases-pair_descs l = 6 * reach (described l.old.set.now) l.old.part + 5

abbrev pub decreases-pair_field : goal.decreases-pair_field
decreases-pair_field l = 6 * reach (described l.old.set.now) l.old.part + 4

abbrev pub decreases-pair_present : goal.decreases-pair_present
decreases-pair_present l = 6 * reach (described l.old.set.now) l.old.part + 3

abbrev pub decreases-pair_arrays : goal.decreases-pair_arrays
decreases-pair_arrays l = 6 * depth l.arrays.one.item + 2

abbrev pub decreases-pair_element : goal.decreases-pair_element
decreases-pair_element l = 6 * depth l.arrays.one.item + 1

abbrev pub decreases-pair_items : goal.decreases-pair_items
decreases-pair_items l = 6 * depth l.one

abbrev pub invariant-pair_descs-loop-number : goal.invariant-pair_descs-loop-number
invariant-pair_descs-loop-number l = record {
  start : IsStart l.new l.start;
  few : HasFew l.old l.number;
  so_far : l.partners.items ++ partners_left l.old l.new l.number l.start ≡ l.initial.partners.items ++ partners_left l.old l.new 0 l.initial.start;
}

abbrev pub invariant-pair_arrays-loop-element : goal.invariant-pair_arrays-loop-element
invariant-pair_arrays-loop-element l = record {
  room : HasRoom l.arrays l.element l.cell;
  so_far : l.partners.items ++ elements_left l.arrays l.element l.cell ≡ l.initial.partners.items ++ elements_left l.arrays 0 l.first;
}
