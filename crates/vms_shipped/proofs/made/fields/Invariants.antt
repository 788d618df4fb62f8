use Rattle.vms_shipped.proofs.Facade.{◌≡◌, ◌++◌, map, drop, field_of, all_in}
use Rattle.vms_shipped.proofs.made.fields.Given as goal

abbrev pub invariant-loop-row : goal.invariant-loop-row
invariant-loop-row l = map field_of l.fields.items ++ all_in l.version (drop l.row-index l.rows) ≡ all_in l.version l.rows
