use Rattle.vms_counter.proofs.Facade.{◌≡◌, map, drop, field_of, counted, counts_well}
use Rattle.vms_counter.proofs.raising.is_within.Given as goal

abbrev pub invariant-loop-field : goal.invariant-loop-field
invariant-loop-field l =
    counts_well (counted l.number (map field_of (drop l.field-index l.fields))) l.value ≡ counts_well (counted l.number (map field_of l.fields)) l.value
