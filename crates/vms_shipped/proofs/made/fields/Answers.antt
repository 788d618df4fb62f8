use Rattle.vms_shipped.proofs.{Facade.refl, Facade.fields_in, Facade.all_in, RowLaws.one_less}
use Rattle.vms_shipped.proofs.made.fields.Goals as goal

pub loop-row-preserved : goal.loop-row-preserved
loop-row-preserved c =
    one_less (fields_in c.args.version) (all_in c.args.version) (λ x xs. refl)
    c.args.rows.now _ _ _ _ _ c.loop-row-test.true c.in_ok-put.ensures c.loop-row.invariant
