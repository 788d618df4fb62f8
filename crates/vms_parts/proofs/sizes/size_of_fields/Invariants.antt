use Rattle.vms_parts.proofs.Facade.{◌≡◌, map, drop, ◌+◌, ◌<◌, ◌^◌, in_u32, fields_size, field_of}
use Rattle.vms_parts.proofs.sizes.size_of_fields.Given as goal

abbrev pub invariant-loop-field : goal.invariant-loop-field
invariant-loop-field l = record {
  small : l.sum < 2 ^ 32;
  whole : in_u32 (l.sum + fields_size l.measure l.sizes (map field_of (drop l.field-index l.fields))) ≡ in_u32 (fields_size l.measure l.sizes (map field_of l.fields));
}
