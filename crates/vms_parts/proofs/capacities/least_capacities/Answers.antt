use Rattle.vms_parts.proofs.CapacityLaws.{least_more, counted_long, written_back}
use Rattle.vms_parts.proofs.Facade.{counted_in, ◌≡◌, List, ℕ, Option, length, drop, take, ◌++◌, ap, ◌∙◌, arith}
use Rattle.vms_parts.proofs.capacities.least_capacities.Goals as goal

pub loop-field-preserved : goal.loop-field-preserved
loop-field-preserved c =
    let items = c.loop-field.table.items in
    let count = c.field-item.result.count in
    let new_is : c.count_in.new.table ≡ counted_in items count = c.count_in.ensures ∙ ap (λ (t : List (Option ℕ)). counted_in t count) c.deref_mut.ensures.value in
    let long : length c.count_in.new.table ≡ length items = ap length new_is ∙ counted_long count items in
    let whole : take c.loop-field.table.len (c.count_in.new.table ++ drop (length c.count_in.new.table) items) ≡ counted_in items count =
    written_back items c.count_in.new.table c.loop-field.table.len long c.loop-field.table.ok.0 ∙ new_is in
    record {
      long = ap length whole ∙ counted_long count items ∙ c.loop-field.invariant.long;
      least = λ i lt.
          rw whole (least_more c.args.fields.now c.loop-field.field-index c.field-item.result items i _ c.loop-field-test.true c.field-item.is (omega (arith, c.loop-field.invariant.long, lt)) (c.loop-field.invariant.least i lt));
    }
