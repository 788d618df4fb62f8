use Rattle.vms_desc.proofs.{Facade.[], Facade.desc_of, EvalLaws.tables_next}
use Rattle.vms_spec.specs.Sets as sets
use Rattle.vms_desc.proofs.table.struct_tables.Goals as goal

pub loop-desc-preserved : goal.loop-desc-preserved
loop-desc-preserved c =
    rw c.in_ok-push.ensures.items (tables_next desc_of
    (λ (d : sets.Desc). d.fields) c.args.sizes.now [] c.args.structs.now c.loop-desc.desc-index c.desc-item.result c.loop-desc.tables.items _
    c.loop-desc-test.true c.desc-item.is c.loop-desc.invariant (rw c.as_slice.ensures at c.in_ok-table_of.ensures))
