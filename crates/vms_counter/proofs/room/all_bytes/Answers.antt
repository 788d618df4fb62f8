use Rattle.vms_counter.proofs.Facade.{◌≡◌, ◌+◌, arith, in_u32, sum_ends, sum_goes}
use Rattle.vms_counter.proofs.room.all_bytes.Goals as goal

pub loop-item-preserved : goal.loop-item-preserved
loop-item-preserved g c =
    let t = g.T.TakesRoom in
    let structs = c.args.structs.now in
    let x = c.item-item.result in
    let has : c.saturating_add-sum.result ≡ in_u32 (c.loop-item.sum + t.bytes structs x) = omega (arith, c.saturating_add-sum.ensures, c.bytes.ensures) in
    record {
      small = c.saturating_add-sum.type_inv;
      whole =
          sum_goes (t.all_bytes structs) (t.bytes structs) (t.none structs)
          (t.more structs) c.args.items.now c.loop-item.item-index c.loop-item.sum c.saturating_add-sum.result _ x c.loop-item-test.true
          c.item-item.is has c.loop-item.invariant.whole;
    }

pub returns : goal.returns
returns g c =
    let t = g.T.TakesRoom in
    sum_ends (t.all_bytes _) (t.bytes _) (t.none _)
    (t.more _) c.args.items.now c.loop-item.item-index c.loop-item.sum _ c.loop-item-test.false c.loop-item.invariant.small
    c.loop-item.invariant.whole
