use Rattle.vms_shipped.proofs.{Facade.map, Facade.refl, Facade.fields_at, Facade.listed_at, Facade.listed_row, RowLaws.one_less}
use Rattle.vms_shipped.proofs.made.put_list.Goals as goal

pub loop-row-preserved : goal.loop-row-preserved
loop-row-preserved c =
    one_less (λ r. listed_at c.args.version c.args.part (listed_row r)) (λ l. fields_at c.args.version c.args.part (map listed_row l))
    (λ x xs. refl) c.args.rows.now _ _ _ _ _ c.loop-row-test.true c.in_ok-put_listed.ensures c.loop-row.invariant
