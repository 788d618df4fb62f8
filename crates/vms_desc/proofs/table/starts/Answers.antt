use Rattle.vms_desc.proofs.Facade.{◌≡◌, ◌+◌, ◌*◌, arith, capacity_of, Cells, in_u32, size_of}
use Rattle.vms_desc.proofs.EvalLaws.{starts_more}
use Rattle.vms_desc.proofs.table.starts.Goals as goal

pub loop-field-preserved : goal.loop-field-preserved
loop-field-preserved c =
    let sizes = c.args.sizes.now in
    let f = c.field-item.result in
    let product : c.capacity.result * c.item_size-size.result ≡ capacity_of f.count * size_of Cells sizes f.item =
    cc (c.capacity.ensures, c.item_size-size.ensures) in
    let more : c.saturating_add-sum.result ≡ in_u32 (c.loop-field.sum + in_u32 (capacity_of f.count * size_of Cells sizes f.item)) =
    omega (arith, c.saturating_add-sum.ensures, c.saturating_mul.ensures, product) in
    rw c.in_ok-push-2.ensures.items
    (starts_more sizes c.args.fields.now c.loop-field.field-index c.loop-field.sum c.saturating_add-sum.result c.loop-field.starts.items f c.loop-field-test.true c.field-item.is more c.loop-field.invariant)
