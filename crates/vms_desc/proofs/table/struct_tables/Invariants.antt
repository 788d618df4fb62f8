use Rattle.vms_desc.proofs.Facade.{map, take, desc_of, AreTables}
use Rattle.vms_desc.proofs.table.struct_tables.Given as goal

abbrev pub invariant-loop-desc : goal.invariant-loop-desc
invariant-loop-desc l = AreTables l.sizes (map (λ d. d.fields) (map desc_of (take l.desc-index l.structs))) l.tables.items
