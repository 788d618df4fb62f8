use Rattle.vms_rules.proofs.Facade.{◌≡◌, max, map, drop, deepest, field_of}
use Rattle.vms_rules.proofs.structs.deepest.Given as goal

abbrev pub invariant-loop-field : goal.invariant-loop-field
invariant-loop-field l = max l.deepest (deepest l.depths (map field_of (drop l.field-index l.fields))) ≡ deepest l.depths (map field_of l.fields)
