use Rattle.vms_parts.proofs.{Facade.first, SizeLaws.sizes_more}
use Rattle.vms_parts.proofs.sizes.struct_sizes.Goals as goal

pub loop-desc-init : goal.loop-desc-init
unfolding first
loop-desc-init c = c.in_ok-sizes.ensures.items

pub loop-desc-preserved : goal.loop-desc-preserved
loop-desc-preserved c =
    let size = rw (c.deref.ensures.value, c.as_slice.ensures) at c.size_of_fields.ensures in
    cc (c.in_ok-push.ensures.items, sizes_more c.args.measure c.args.structs.now _ _ _ _ c.desc-item.is c.loop-desc-test.true c.loop-desc.invariant size)
