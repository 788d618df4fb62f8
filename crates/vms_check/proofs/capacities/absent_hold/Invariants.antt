use Rattle.vms_check.proofs.Facade.{◌≡◌, map, drop, field_of, absent_hold}
use Rattle.vms_check.proofs.capacities.absent_hold.Given as goal

abbrev pub invariant-loop-field : goal.invariant-loop-field
invariant-loop-field l =
    absent_hold l.version l.number l.elements (map field_of (drop l.field-index l.fields)) ≡ absent_hold l.version l.number l.elements (map field_of l.fields)
