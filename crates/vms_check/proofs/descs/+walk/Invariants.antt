use Rattle.vms_check.proofs.Facade.{◌≡◌, ◌+◌, ◌*◌, ◌-◌, length, drop, described, reach, fields_on, all_fields_on, desc_on, fields_from}
use Rattle.vms_check.proofs.descs.+walk.Given as goal

abbrev pub decreases-compare_structs : goal.decreases-compare_structs
decreases-compare_structs l = 4 * l.in_new + 4

abbrev pub decreases-compare_pair : goal.decreases-compare_pair
decreases-compare_pair l = 4 * reach (described l.new.set.now) l.new.part + 1

abbrev pub decreases-compare_fields : goal.decreases-compare_fields
decreases-compare_fields l = 4 * reach (described l.new.set.now) l.new.part + 2

abbrev pub decreases-compare_descs : goal.decreases-compare_descs
decreases-compare_descs l = 4 * reach (described l.new.set.now) l.new.part + 3

abbrev pub invariant-compare_fields-loop-other : goal.invariant-compare_fields-loop-other
invariant-compare_fields-loop-other l =
    fields_on l.old l.new (fields_from l.old.version l.in_old (drop l.in_old (desc_on l.old).fields))
    (fields_from l.new.version l.in_new (drop l.in_new (desc_on l.new).fields)) ≡ all_fields_on l.old l.new

abbrev pub decreases-compare_fields-loop-other : goal.decreases-compare_fields-loop-other
decreases-compare_fields-loop-other l = length (desc_on l.old).fields - l.in_old
