use Rattle.vms_parts.proofs.Facade.{◌≡◌, ℕ, ◌<◌, length, map, drop, get_or, None, counted, field_of, least_from, least_of}
use Rattle.vms_parts.proofs.capacities.least_capacities.Given as goal

abbrev pub invariant-loop-field : goal.invariant-loop-field
invariant-loop-field l = record {
  long : length l.table.items ≡ length l.fields;
  least : (i : ℕ) → i < length l.fields → least_from (get_or l.table.items i None) (counted i (map field_of (drop l.field-index l.fields))) ≡ least_of (counted i (map field_of l.fields));
}
