use Rattle.vms_shipped.proofs.Facade.{◌≡◌, ◌++◌, map, drop, fields_at, field_of, listed_row}
use Rattle.vms_shipped.proofs.made.put_list.Given as goal

abbrev pub invariant-loop-row : goal.invariant-loop-row
invariant-loop-row l =
    map field_of l.fields.items ++ fields_at l.version l.part (map listed_row (drop l.row-index l.rows))
    ≡ map field_of l.initial.fields.items ++ fields_at l.version l.part (map listed_row l.rows)
