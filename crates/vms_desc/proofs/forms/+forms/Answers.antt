use Rattle.vms_desc.proofs.Facade.{drop_is, drop_all, rules, item_forms, structs_forms}
use Rattle.vms_desc.proofs.FormLaws.{puts_none, left_all, left_goes, left_none, repeated_put, struct_forms, no_struct_forms}
use Rattle.vms_desc.proofs.forms.+forms.Goals as goal

pub put_fields-loop-field-init : goal.put_fields-loop-field-init
put_fields-loop-field-init t c = left_all c.args.forms.now _

pub put_fields-loop-field-preserved : goal.put_fields-loop-field-preserved
put_fields-loop-field-preserved t c =
    let next = drop_is c.args.fields.now c.loop-field.field-index c.field-item.result c.loop-field-test.true c.field-item.is in
    left_goes _ _ _ _ (rw next) c.in_ok-put_field.ensures c.loop-field.invariant

pub put_fields-returns : goal.put_fields-returns
put_fields-returns t c = left_none (rw (drop_all c.loop-field.field-index c.args.fields.now c.loop-field-test.false)) c.loop-field.invariant

pub put_field-returns : goal.put_field-returns
put_field-returns t c =
    let ts = structs_forms c.args.structs.now in
    let part = item_forms ts c.args.field.now.item c.args.field.now.default in
    let put = c.in_ok-put_element.ensures in
    rw (← c.capacity-count.ensures) (record {
      kinds = repeated_put (λ form. form.kind) _ _ _ part c.len-kinds.result c.capacity-count.result (search rules) put.kinds c.in_ok-repeat.ensures;
      defaults = repeated_put (λ form. form.default) _ _ _ part c.len-defaults.result c.capacity-count.result
          (search rules) put.defaults c.in_ok-repeat-2.ensures;
    })

pub put_element-returns-in_ok-put_fields-in-Struct : goal.put_element-returns-in_ok-put_fields-in-Struct
put_element-returns-in_ok-put_fields-in-Struct t c = search (rules, struct_forms)

pub put_element-returns-else-number-structs : goal.put_element-returns-else-number-structs
put_element-returns-else-number-structs t c = search (rules, puts_none, no_struct_forms)
