use Rattle.vms_rules.proofs.{Facade.◌≡◌, Facade.not, Facade.has_name, NameLaws.added_more, NameLaws.new_more}
use Rattle.vms_rules.proofs.names.add_names.Goals as goal

pub loop-name-preserved : goal.loop-name-preserved
loop-name-preserved c =
    let after = rw c.as_str.ensures at c.in_ok-are_new.ensures.added in
    let is_new : c.in_ok-are_new.field-0 ≡ not (has_name c.loop-name.names c.name-item.result) = cc (c.in_ok-are_new.ensures.new, c.as_str.ensures) in
    record {
      has = added_more _ _ _ (has_name c.args.names.now) (has_name c.loop-name.names)
          (has_name c.add_name.new.names) c.loop-name-test.true c.name-item.is c.loop-name.invariant.has after;
      new =
          rw is_new (new_more _ _ c.name-item.result (has_name c.loop-name.names)
          (has_name c.add_name.new.names) c.loop-name.are_new _ c.loop-name-test.true c.name-item.is
          c.loop-name.invariant.new after);
    }
