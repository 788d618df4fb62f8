use Rattle.vms_rules.proofs.Facade.{◌≡◌, map, take, all_names, field_of, key}
use Rattle.vms_rules.proofs.keys.keys.Given as goal

abbrev pub invariant-loop-field : goal.invariant-loop-field
invariant-loop-field l = l.keys.items ≡ map key (all_names (map field_of (take l.field-index l.fields)))
