use Rattle.vms_desc.proofs.{Facade.map, Facade.field_of, EvalLaws.StartsTo}
use Rattle.vms_desc.proofs.table.starts.Given as goal

abbrev pub invariant-loop-field : goal.invariant-loop-field
invariant-loop-field l = StartsTo l.sizes (map field_of l.fields) l.field-index l.sum l.starts.items
